-- The runs of a vector, and codes of its rows.
use Rattle.std.proofs.Common.{◌≡◌, ◌==◌, ℕ, suc, ◌+◌, ◌-◌, ◌*◌, ◌⊎◌, inl, inr, ◌^◌, ◌<◌, ◌≤◌, Bool, true, false, cond, int_lt, ℤ, pos, ◌+ℤ◌, ◌-ℤ◌, ◌≤ℤ◌, List, length, slice_index, sym, ap, ◌∙◌, subst, arith}
use Rattle.std.proofs.lemmas.Int.{ints}
use Rattle.std.proofs.lemmas.Nat.{pow_pos}
use Rattle.std.proofs.Math.Pow.{pow_mono}
use Rattle.std.specs.Int.{bit_at}
use Rattle.std.proofs.lemmas.Bool.{cases_lt}
use Rattle.std.proofs.lemmas.Nat.Bits.{bit_at-zero}
use Rattle.transpose_order.specs.Mask.{has, rows_of, truth_at}
use Rattle.transpose_order.specs.MaskWords.{has-rows_of}
use Rattle.transpose_order.specs.Place.{lane_of, step_of}
use Rattle.transpose_order.proofs.MaskLemmas.{count_below-le, has-word}
use Rattle.bit_interleave.specs.Packing.{packed_value}
use Rattle.bit_interleave.specs.Range.{value_at}
use Rattle.bit_interleave.proofs.StepLemmas.{packed_value-below}
use Rattle.frame_delta.specs.Frame.{FrameForm, IsFrameForm, frame_value}
use Rattle.run_dictionary.specs.Runs.{RunForm, IsRunForm, run_of}
use Rattle.run_dictionary.specs.Dict.{DictForm, IsDictForm, code_at}
use Rattle.run_dictionary.proofs.CountLemmas.{count_below-rises}
use Rattle.run_dictionary.proofs.DictLemmas.{Ascends-from_neighbours, less_at}
use Rattle.native_lanes.specs.Frames.{top_value}
use Rattle.native_lanes.proofs.PackedLemmas.{plain_value}
use Rattle.segment_core.specs.Coded.{value_in}
use Rattle.segment_core.specs.CodedVector.{VectorForm, is_null}
use Rattle.segment_core.specs.declared.coded.Coded.{Coded}
use Rattle.segment_core.specs.declared.coded.Coded.TheVariants.{For, Runs, Dict}
use Rattle.fused_kernels.specs.RowRuns.{AreRowRuns, AreCodes, AreRowCodes}

-- ---- runs
pub row_runs : (v : VectorForm) (form : RunForm) (starts : List Bool) (values : List ℤ) → v.coded ≡ Runs form → IsRunForm form → starts ≡ form.starts
    → ((k : ℕ) → k < length form.values → value_at values k ≡ value_at form.values k) → AreRowRuns v starts values
row_runs v form starts values coded is same written = record {
  long = ap length same ∙ is.rows;
  first = ap (λ m. has m 0) same ∙ is.first;
  within = λ n h. omega (arith, h, count_below-le (λ i. has starts (suc i)) n);
  value = λ n h.
      let run : run_of starts n ≡ run_of form.starts n = ap (λ m. run_of m n) same in
      let inside : run_of form.starts n < length form.values = omega (arith, is.count, count_below-rises (λ i. has form.starts (suc i)) n 1023 (omega (arith, h))) in
      ap (λ (k : ℕ). value_at values k) run ∙ written (run_of form.starts n) inside ∙ sym (ap (λ (x : Coded). value_in x n) coded);
}

-- ---- frames
-- the value of a row of a frame that doesn't wrap is so far above the reference
plain_row : (form : FrameForm) (n : ℕ) → IsFrameForm form → int_lt (top_value form) (pos (2 ^ (form.lane_width - 1))) ≡ true
    → frame_value form n ≡ form.reference +ℤ pos (packed_value form.lane_width form.width form.words.numbers (lane_of form.lane_width n) (step_of form.lane_width n))
plain_row form n is plain =
    let below = packed_value-below form.lane_width form.width form.words.numbers (lane_of form.lane_width n) (step_of form.lane_width n) in
    let some = pow_pos (form.lane_width - 1) in
    let limit : (form.reference +ℤ pos (2 ^ form.width - 1)) ≤ℤ pos (2 ^ (form.lane_width - 1) - 1) = at_most (form.reference +ℤ pos (2 ^ form.width - 1)) (2 ^ (form.lane_width - 1)) some plain in
    plain_value form n (2 ^ form.width - 1) is (omega (arith, below)) limit
  where
    at_most : (z : ℤ) (k : ℕ) → 0 < k → int_lt z (pos k) ≡ true → z ≤ℤ pos (k - 1)
    at_most z k some less = grind (arith, ints)

pub plain_distance : (form : FrameForm) (n : ℕ) → IsFrameForm form → int_lt (top_value form) (pos (2 ^ (form.lane_width - 1))) ≡ true → form.width ≤ 8 → (form.reference ≤ℤ frame_value form n) × (frame_value form n ≤ℤ (form.reference +ℤ pos 255))
plain_distance form n is plain narrow =
    let below = packed_value-below form.lane_width form.width form.words.numbers (lane_of form.lane_width n) (step_of form.lane_width n) in
    let most : 2 ^ form.width ≤ 2 ^ 8 = pow_mono narrow in
    let row = plain_row form n is plain in
    (omega (arith, ints, row), omega (arith, ints, row, below, most))

-- of lanes of 16 bits that is the packed number
pub packed_distance : (form : FrameForm) (n width : ℕ) (words : List ℕ) (code : ℕ) → IsFrameForm form → int_lt (top_value form) (pos (2 ^ (form.lane_width - 1))) ≡ true → form.lane_width ≡ 16 → width ≡ form.width → words ≡ form.words.numbers
    → code ≡ packed_value 16 width words (lane_of 16 n) (step_of 16 n) → pos code ≡ frame_value form n -ℤ form.reference
packed_distance form n width words code is plain lanes w ws e =
    let row = plain_row form n is plain in
    let same : code ≡ packed_value form.lane_width form.width form.words.numbers (lane_of form.lane_width n) (step_of form.lane_width n) =
    e ∙ ap (λ k. packed_value 16 k words (lane_of 16 n) (step_of 16 n)) w ∙ ap (λ xs. packed_value 16 form.width xs (lane_of 16 n) (step_of 16 n)) ws ∙ ap (λ t. packed_value t form.width form.words.numbers (lane_of t n) (step_of t n)) (sym lanes) in
    omega (arith, ints, row, same)

pub frame_are_codes : (form : FrameForm) (count : ℕ) (codes : List ℕ) (keys : List ℤ) → IsFrameForm form → int_lt (top_value form) (pos (2 ^ (form.lane_width - 1))) ≡ true → form.width ≤ 8 → count ≡ 2 ^ form.width
    → ((n : ℕ) → n < 1024 → pos (slice_index codes n) ≡ frame_value form n -ℤ form.reference) → ((k : ℕ) → k < count → value_at keys k ≡ form.reference +ℤ pos k) → AreCodes (For form) count codes keys
frame_are_codes form count codes keys is plain narrow many coded keyed = record {
  few = let most : 2 ^ form.width ≤ 2 ^ 8 = pow_mono narrow in omega (arith, many, most);
  within = inside;
  key = λ n h. let key = keyed (slice_index codes n) (inside n h) in let code = coded n h in omega (arith, ints, key, code);
  rises = λ i j less h.
      let before : i < count = omega (arith, less, h) in
      let a = keyed i before in
      let b = keyed j h in
      omega (arith, ints, a, b, less);
}
  where
    inside : (n : ℕ) → n < 1024 → slice_index codes n < count
    inside n h =
        let below = packed_value-below form.lane_width form.width form.words.numbers (lane_of form.lane_width n) (step_of form.lane_width n) in
        let row = plain_row form n is plain in
        let code = coded n h in
        omega (arith, ints, many, below, row, code)

-- ---- dictionaries
pub dict_are_codes : (form : DictForm) (count : ℕ) (codes : List ℕ) (keys : List ℤ) → IsDictForm form → count ≡ length form.values → ((n : ℕ) → n < 1024 → slice_index codes n ≡ code_at form n)
    → ((k : ℕ) → k < length form.values → value_at keys k ≡ value_at form.values k) → AreCodes (Dict form) count codes keys
dict_are_codes form count codes keys is many coded keyed = record {
  few = omega (arith, many, is.many);
  within = λ n h. let code = coded n h in let below = is.codes n h in omega (arith, many, code, below);
  key = λ n h. ap (λ (k : ℕ). value_at keys k) (coded n h) ∙ keyed (code_at form n) (is.codes n h);
  rises = λ i j less h.
      let inside : j < length form.values = omega (arith, many, h) in
      let before : i < length form.values = omega (arith, less, inside) in
      let a = keyed i before in
      let b = keyed j inside in
      let rise = less_at form.values (Ascends-from_neighbours form.values is.rises) i j less inside in
      omega (arith, ints, a, b, rise);
}

-- ---- nulls
pub row_codes : (v : VectorForm) (c : Coded) (count : ℕ) (rows : List Bool) (before codes : List ℕ) (keys : List ℤ) → c ≡ v.coded → rows ≡ rows_of (is_null v.nulls) → AreCodes c count before keys
    → ((n : ℕ) → n < 1024 → slice_index codes n ≡ cond (has rows n) count (slice_index before n)) → AreRowCodes v count codes keys
row_codes v c count rows before codes keys same nulls are put = record {
  few = are.few;
  nulls = λ n h null. at n true h null;
  within = λ n h null. let code = at n false h null in let below = are.within n h in omega (arith, code, below);
  key = λ n h null. ap (λ (k : ℕ). value_at keys k) (at n false h null) ∙ are.key n h ∙ ap (λ (x : Coded). value_in x n) same;
  rises = are.rises;
}
  where
    at : (n : ℕ) (b : Bool) → n < 1024 → is_null v.nulls n ≡ b → slice_index codes n ≡ cond b count (slice_index before n)
    at n b h null =
        put n h ∙ ap (λ x. cond x count (slice_index before n)) (ap (λ m. has m n) nulls ∙ has-rows_of (is_null v.nulls) n h ∙ null)

-- ---- a code put at the rows of a mask, one word more
pub put_more : (rows : List Bool) (words start old new : List ℕ) (index code n : ℕ) → index < 16 → rows_of (truth_at words) ≡ rows
    → ((n : ℕ) → n < 64 * index → slice_index old n ≡ cond (has rows n) code (slice_index start n)) → ((n : ℕ) → 64 * index ≤ n → slice_index old n ≡ slice_index start n)
    → ((b : ℕ) → b < 64 → slice_index new (64 * index + b) ≡ cond (bit_at (slice_index words index) b == 1) code (slice_index old (64 * index + b)))
    → ((n : ℕ) → n < 64 * index → slice_index new n ≡ slice_index old n) → n < 64 * (index + 1) → slice_index new n ≡ cond (has rows n) code (slice_index start n)
put_more rows words start old new index code n inside is written after now before h = by_row (cases_lt n (64 * index))
  where
    by_row : (n < 64 * index) ⊎ (64 * index ≤ n) → slice_index new n ≡ cond (has rows n) code (slice_index start n)
    by_row (inl l) = before n l ∙ written n l
    by_row (inr l) =
        let place : 64 * index + (n - 64 * index) ≡ n = omega (arith, l) in
        let bit : n - 64 * index < 64 = omega (arith, h, l) in
        subst (λ (k : ℕ). slice_index new k ≡ cond (has rows k) code (slice_index start k)) place
        (now (n - 64 * index) bit
        ∙ ap (λ b. cond b code (slice_index old (64 * index + (n - 64 * index)))) (sym (has-word words rows is index (n - 64 * index) inside bit))
        ∙ ap (λ (x : ℕ). cond (has rows (64 * index + (n - 64 * index))) code x) (after (64 * index + (n - 64 * index)) (omega (arith, l))))

-- a word without a bit puts nothing
pub put_none : (words old : List ℕ) (index code b : ℕ) → slice_index words index ≡ 0 → slice_index old (64 * index + b) ≡ cond (bit_at (slice_index words index) b == 1) code (slice_index old (64 * index + b))
put_none words old index code b none =
    sym (ap (λ (w : ℕ). cond (bit_at w b == 1) code (slice_index old (64 * index + b))) none ∙ ap (λ (x : ℕ). cond (x == 1) code (slice_index old (64 * index + b))) (bit_at-zero b))
