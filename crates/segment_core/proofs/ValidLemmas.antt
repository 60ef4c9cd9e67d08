-- What is a form has bytes: each part of it, and so each vector, each column and each segment.
use Rattle.std.proofs.Common.{◌≡◌, ℕ, suc, ◌+◌, ◌-◌, ◌*◌, ◌/◌, ◌^◌, ◌<◌, ◌≤◌, ◌⊎◌, Bool, true, false, cond, ◌&&◌, ◌||◌, ◌==◌, not, leb, eqb, ℤ, pos, int_lt, ◌<ℤ◌, List, [], ◌∷◌, ◌++◌, length, get_or, slice_get, Option, Some, None, inl, inr, refl, sym, ap, subst, ◌∙◌, append_assoc, arith, FitsSigned, All}
use Rattle.std.specs.List.{list_all}
use Rattle.std.proofs.lemmas.Bool.{le-leb, eq-eqb, ne_eqb, and_from, cases_lt}
use Rattle.std.proofs.lemmas.List.{length-append, length-map, get_or_past, get_or_append_left}
use Rattle.std.proofs.lemmas.Option.{slice_get_within, get_or_from_slice_get}
use Rattle.std.proofs.Math.Seq.{get_or-append_seam}
use Rattle.transpose_order.specs.Place.{IsLaneWidth}
use Rattle.transpose_order.specs.Mask.{has}
use Rattle.transpose_order.specs.MaskWords.{number_of_bits-below}
use Rattle.transpose_order.specs.Bytes.{byte_of, bytes_of_bits}
use Rattle.transpose_order.specs.MaskBytes.{mask_bytes}
use Rattle.transpose_order.proofs.MaskLemmas.{count_below-le}
use Rattle.transpose_order.proofs.WidthLemmas.{at_widths}
use Rattle.transpose_order.proofs.ByteLemmas.{length-bytes_of_bits, get_or-bytes_of_bits}
use Rattle.bit_interleave.specs.Arithmetic.{integer_width}
use Rattle.bit_interleave.specs.PackedWords.{PackedWords, FitLanes, HasWidth}
use Rattle.bit_interleave.specs.PackedBytes.{bytes_of, bit_of_words}
use Rattle.bit_interleave.specs.Range.{AreInRange, value_at}
use Rattle.bit_interleave.proofs.WordBytesLemmas.{length-bytes_of-packed, bit_of_words-below}
use Rattle.frame_delta.specs.Frame.{FrameForm, IsFrameForm}
use Rattle.frame_delta.specs.Delta.{DeltaForm, IsDeltaForm}
use Rattle.run_dictionary.specs.Runs.{RunForm, IsRunForm, run_of}
use Rattle.run_dictionary.specs.Dict.{DictForm, IsDictForm, IsAscending}
use Rattle.run_dictionary.proofs.DictLemmas.{test_from_less}
use Rattle.table_model.specs.Table.{Table}
use Rattle.table_model.specs.declared.refusal.Refusal.TheVariants.{BadDictionary}
use Rattle.segment_core.specs.declared.coding.Coding.{Coding}
use Rattle.segment_core.specs.declared.coding.Coding.TheVariants.{For as ByFrame, Delta as ByDeltas, Runs as ByRuns, Dict as ByDictionary}
use Rattle.segment_core.specs.declared.coded.Coded.{Coded}
use Rattle.segment_core.specs.declared.coded.Coded.TheVariants.{For, Delta, Runs, Dict}
use Rattle.segment_core.specs.declared.vector_bytes.Header.{Header}
use Rattle.segment_core.specs.Coded.{lane_width_of, IsCodedForm}
use Rattle.segment_core.specs.CodedVector.{VectorForm, IsVector, AreNulls}
use Rattle.segment_core.specs.Segment.{SegmentForm, IsColumn, IsSegment, batch_of, vector_count, rows_in, width_in, widths_in, widths_of}
use Rattle.segment_core.specs.Format.{Format, AreBytes, is_byte, checked, all, valid_all, number, signed}
use Rattle.segment_core.specs.VectorBytes.{mask, words, is_null_mask, nulls, coding, is_width, is_count, header, frame, deltas, starts, runs, is_above, dictionary, are_codes_below, codes, dict, payload, header_of, coded, vector}
use Rattle.segment_core.specs.SegmentBytes.{column, columns, HasBytesIn}
use Rattle.segment_core.proofs.FormatLaws.{bytes_at}
use Rattle.segment_core.proofs.NumberLaws.{number_is_valid, signed_is_valid}
use Rattle.segment_core.proofs.VectorLaws.{fit_tests}
use Rattle.segment_core.proofs.MaskCounts.{null_mask_is_tested}
use Rattle.segment_core.proofs.CodeTests.{codes_are_tested}
use Rattle.segment_core.proofs.SegmentLemmas.{length-batch_of}
use Rattle.segment_core.proofs.CellLemmas.{width_of_vector, get_or-widths_in}

-- ---- items

-- items have bytes where each has them after as many items as stand before it
pub items_valid : {A : Type 0} (item : List A → Format A) (xs front : List A)
    → ((n : ℕ) (passed : List A) (x : A) → slice_get xs n ≡ Some x → length passed ≡ length front + n → (item passed).valid x ≡ true) → valid_all item front xs ≡ true
unfolding valid_all
items_valid item [] front h = refl
items_valid item (x ∷ xs) front h =
    and_from ((item front).valid x) (valid_all item (front ++ x ∷ []) xs) (h 0 front x refl (omega arith))
    (items_valid item xs (front ++ x ∷ []) (λ n passed y e long. h (suc n) passed y e (omega (arith, length-append front (x ∷ []), long))))

pub all_valid : {A : Type 0} (count : ℕ) (item : List A → Format A) (xs : List A) → length xs ≡ count
    → ((n : ℕ) (passed : List A) (x : A) → slice_get xs n ≡ Some x → length passed ≡ n → (item passed).valid x ≡ true) → (all count item).valid xs ≡ true
all_valid count item xs long h =
    and_from (eqb (length xs) count) (valid_all item [] xs) (eq-eqb (length xs) count long) (items_valid item xs [] (λ n passed x e at. h n passed x e (omega (arith, at))))

fit_at : (t : ℕ) (values : List ℤ) (n : ℕ) (z : ℤ) → AreInRange t values → slice_get values n ≡ Some z → FitsSigned (integer_width t) z
fit_at t values n z fit e =
    subst (λ (x : ℤ). FitsSigned (integer_width t) x) (get_or_from_slice_get values n z z e) (fit n z (slice_get_within values n z e))

pub values_valid : (t count : ℕ) (values : List ℤ) → IsLaneWidth t → length values ≡ count → AreInRange t values → (all count (λ _. signed t)).valid values ≡ true
values_valid t count values lanes long fit =
    all_valid count (λ _. signed t) values long (λ n passed z e at. signed_is_valid t z lanes (fit_at t values n z fit e))

-- ---- masks and packed words

bits_are_bytes : (n : ℕ) (f : ℕ → ℕ) → ((b : ℕ) → f b < 2) → AreBytes (bytes_of_bits n f)
unfolding byte_of
bits_are_bytes n f bits = bytes_at (bytes_of_bits n f) (λ i. at_place i (cases_lt i n))
  where
    at_place : (i : ℕ) → (i < n) ⊎ (n ≤ i) → get_or (bytes_of_bits n f) i 0 < 256
    at_place i (inl inside) = rw (get_or-bytes_of_bits n f i inside) (number_of_bits-below 8 (λ p. f (8 * i + p)) (λ p small. bits (8 * i + p)))
    at_place i (inr past) = rw (get_or_past (bytes_of_bits n f) i 0 (omega (arith, length-bytes_of_bits n f, past))) (omega arith)

a_bit : (b : Bool) → cond {A = ℕ} b 1 0 < 2
a_bit true = omega arith
a_bit false = omega arith

pub mask_valid : (rows : List Bool) → length rows ≡ 1024 → mask.valid rows ≡ true
unfolding mask mask_bytes
mask_valid rows long =
    let f : ℕ → ℕ = λ n. cond {A = ℕ} (has rows n) 1 0 in
    rw (eq-eqb (length rows) 1024 long)
    (and_from (eqb (length (bytes_of_bits 128 f)) 128) (list_all is_byte (bytes_of_bits 128 f)) (eq-eqb _ _ (length-bytes_of_bits 128 f)) (bits_are_bytes 128 f (λ n. a_bit (has rows n))))

word_bytes : (packed : PackedWords) → AreBytes (bytes_of packed)
unfolding bytes_of
word_bytes packed =
    bits_are_bytes (length packed.numbers * (packed.lane_width / 8)) (bit_of_words packed.lane_width packed.numbers)
    (bit_of_words-below packed.lane_width packed.numbers)

pub words_valid : (t w : ℕ) (packed : PackedWords) → IsLaneWidth t → packed.lane_width ≡ t → HasWidth packed w → FitLanes packed → (words t w).valid packed ≡ true
unfolding words
words_valid t w packed lanes same width fit =
    let P : ℕ → Type 0 = λ k. All (λ n. n < 2 ^ k) packed.numbers in
    let L : ℕ → Type 0 = λ k. IsLaneWidth k in
    rw (eq-eqb packed.lane_width t same, fit_tests t packed.numbers (subst P same fit))
    (and_from (eqb (length (bytes_of packed)) (128 * w)) (list_all is_byte (bytes_of packed)) (eq-eqb _ _ (length-bytes_of-packed packed w (subst L (sym same) lanes) width)) (word_bytes packed))

-- ---- null masks

pub nulls_valid : (rows : ℕ) (found : Option (List Bool)) → rows ≤ 1024 → AreNulls rows found → (nulls rows).valid found ≡ true
unfolding nulls
nulls_valid rows None limit h = and_from ((number 1).valid 0 && true) true (and_from ((number 1).valid 0) true (number_is_valid 1 0 (omega arith)) refl) refl
nulls_valid rows (Some found) limit h =
    and_from ((number 1).valid 1 && true) (mask.valid found && is_null_mask rows found)
    (and_from ((number 1).valid 1) true (number_is_valid 1 1 (omega arith)) refl)
    (and_from (mask.valid found) (is_null_mask rows found) (mask_valid found h.long) (null_mask_is_tested rows found limit h))

-- ---- codings, widths and counts

pub coding_valid : (c : Coding) → coding.valid c ≡ true
unfolding coding
coding_valid ByFrame = and_from ((number 1).valid 0) true (number_is_valid 1 0 (omega arith)) refl
coding_valid ByDeltas = and_from ((number 1).valid 1) true (number_is_valid 1 1 (omega arith)) refl
coding_valid ByRuns = and_from ((number 1).valid 2) true (number_is_valid 1 2 (omega arith)) refl
coding_valid ByDictionary = and_from ((number 1).valid 3) true (number_is_valid 1 3 (omega arith)) refl

pub header_valid : (t : ℕ) (h : Header) → h.width < 256 → is_width t h.coding h.width ≡ true → h.count < 65536 → is_count h.coding h.count ≡ true → (header t).valid h ≡ true
unfolding header
header_valid t h narrow width small count =
    and_from (coding.valid h.coding) (((number 1).valid h.width && is_width t h.coding h.width) && ((number 2).valid h.count && is_count h.coding h.count))
    (coding_valid h.coding)
    (and_from ((number 1).valid h.width && is_width t h.coding h.width) ((number 2).valid h.count && is_count h.coding h.count)
    (and_from ((number 1).valid h.width) (is_width t h.coding h.width) (number_is_valid 1 h.width narrow) width)
    (and_from ((number 2).valid h.count) (is_count h.coding h.count) (number_is_valid 2 h.count small) count))

-- ---- payloads

pub frame_valid : (c : FrameForm) → IsFrameForm c → (frame c.lane_width c.width).valid c ≡ true
unfolding frame
frame_valid c is =
    rw (eq-eqb c.lane_width c.lane_width refl, eq-eqb c.width c.width refl)
    (and_from ((signed c.lane_width).valid c.reference) ((words c.lane_width c.width).valid c.words)
    (signed_is_valid c.lane_width c.reference is.lane_width is.reference)
    (words_valid c.lane_width c.width c.words is.lane_width is.words is.packed is.fit))

pub deltas_valid : (c : DeltaForm) → IsDeltaForm c → (deltas c.lane_width c.width).valid c ≡ true
unfolding deltas
deltas_valid c is =
    rw (eq-eqb c.lane_width c.lane_width refl, eq-eqb c.width c.width refl)
    (and_from ((signed c.lane_width).valid c.least) ((all (1024 / c.lane_width) (λ _. signed c.lane_width)).valid c.bases && (words c.lane_width c.width).valid c.words)
    (signed_is_valid c.lane_width c.least is.lane_width is.least)
    (and_from ((all (1024 / c.lane_width) (λ _. signed c.lane_width)).valid c.bases) ((words c.lane_width c.width).valid c.words)
    (values_valid c.lane_width (1024 / c.lane_width) c.bases is.lane_width is.base_count is.bases)
    (words_valid c.lane_width c.width c.words is.lane_width is.words is.packed is.fit)))

pub runs_valid : (r : RunForm) → IsRunForm r → (runs r.lane_width (length r.values)).valid r ≡ true
unfolding runs starts
runs_valid r is =
    let first : not (has r.starts 0) ≡ true = ap not is.first in
    rw (eq-eqb r.lane_width r.lane_width refl)
    (and_from ((mask.valid r.starts && not (has r.starts 0)) && (eqb (run_of r.starts 1023 + 1) (length r.values))) ((all (length r.values) (λ _. signed r.lane_width)).valid r.values)
    (and_from (mask.valid r.starts && not (has r.starts 0)) (eqb (run_of r.starts 1023 + 1) (length r.values))
    (and_from (mask.valid r.starts) (not (has r.starts 0)) (mask_valid r.starts is.rows) first)
    (eq-eqb _ _ (sym is.count)))
    (values_valid r.lane_width (length r.values) r.values is.lane_width refl is.range))

-- a value is above the last of those before it in an ascending list
above_last : (front : List ℤ) (x : ℤ) (xs : List ℤ) → IsAscending (front ++ x ∷ xs) → is_above front x ≡ true
above_last [] x xs rises = refl
above_last (y ∷ front) x xs rises =
    let k : ℕ = length front in
    let less = rises k (omega (arith, length-append (y ∷ front) (x ∷ xs))) in
    let last : value_at ((y ∷ front) ++ x ∷ xs) k ≡ value_at (y ∷ front) k = get_or_append_left (y ∷ front) (x ∷ xs) (pos 0) k (omega arith) in
    let here : value_at ((y ∷ front) ++ x ∷ xs) (k + 1) ≡ x = ap (value_at ((y ∷ front) ++ x ∷ xs)) (let e : k + 1 ≡ suc k = omega arith in e) ∙ get_or-append_seam (y ∷ front) x xs (pos 0) in
    let place : length (y ∷ front) - 1 ≡ k = omega arith in
    let below : value_at (y ∷ front) (length (y ∷ front) - 1) <ℤ x = rw place (rw (last, here) at less) in
    let some : (length (y ∷ front) == 0) ≡ false = ne_eqb _ _ (omega arith) in
    ap (λ (b : Bool). b || int_lt (value_at (y ∷ front) (length (y ∷ front) - 1)) x) some ∙ test_from_less (value_at (y ∷ front) (length (y ∷ front) - 1)) x below

dictionary_from : (t : ℕ) (xs front : List ℤ) → IsLaneWidth t → IsAscending (front ++ xs) → AreInRange t xs → valid_all (λ front. checked (signed t) (is_above front) BadDictionary) front xs ≡ true
unfolding valid_all
dictionary_from t [] front lanes rises fit = refl
dictionary_from t (x ∷ xs) front lanes rises fit =
    let P : List ℤ → Type 0 = λ values. IsAscending values in
    and_from ((signed t).valid x && is_above front x) (valid_all (λ front. checked (signed t) (is_above front) BadDictionary) (front ++ x ∷ []) xs)
    (and_from ((signed t).valid x) (is_above front x) (signed_is_valid t x lanes (fit 0 x (omega arith))) (above_last front x xs rises))
    (dictionary_from t xs (front ++ x ∷ []) lanes (subst P (sym (append_assoc front (x ∷ []) xs)) rises) (λ n d below. fit (suc n) d (omega arith)))

pub dictionary_valid : (t : ℕ) (values : List ℤ) → IsLaneWidth t → IsAscending values → AreInRange t values → (dictionary t (length values)).valid values ≡ true
unfolding dictionary
dictionary_valid t values lanes rises fit =
    and_from (eqb (length values) (length values)) (valid_all (λ front. checked (signed t) (is_above front) BadDictionary) [] values) (eq-eqb (length values) (length values) refl) (dictionary_from t values [] lanes rises fit)

pub dict_valid : (d : DictForm) → IsDictForm d → (dict d.lane_width d.width (length d.values)).valid d ≡ true
unfolding dict codes
dict_valid d is =
    rw (eq-eqb d.lane_width d.lane_width refl, eq-eqb d.width d.width refl)
    (and_from ((dictionary d.lane_width (length d.values)).valid d.values) ((words 16 d.width).valid d.codes && are_codes_below d.width (length d.values) d.codes)
    (dictionary_valid d.lane_width d.values is.lane_width is.rises is.range)
    (and_from ((words 16 d.width).valid d.codes) (are_codes_below d.width (length d.values) d.codes)
    (words_valid 16 d.width d.codes (inr (inl refl)) is.words is.packed is.fit)
    (codes_are_tested d.width (length d.values) d.codes is.codes)))

-- ---- coded values

lanes_small : (t : ℕ) → IsLaneWidth t → t ≤ 64
lanes_small t lanes = at_widths (λ t. t ≤ 64) (omega arith) (omega arith) (omega arith) (omega arith) t lanes

same_width : (w : ℕ) (words : PackedWords) (t : ℕ) → HasWidth words w → words.lane_width ≡ t → w ≤ t
same_width w words t width same = let fits = width.fits in omega (arith, same)

-- a dictionary form has a value, since row 0 has a code below their count
some_value : (d : DictForm) → IsDictForm d → 1 ≤ length d.values
some_value d is = let below = is.codes 0 (omega arith) in omega arith

head_valid : (c : Coded) → IsCodedForm c → (header (lane_width_of c)).valid (header_of c) ≡ true
head_valid (For c) is =
    let width : c.width ≤ c.lane_width = same_width c.width c.words c.lane_width is.packed is.words in
    header_valid c.lane_width (header_of (For c)) (omega (arith, width, lanes_small c.lane_width is.lane_width)) (le-leb _ _ width) (omega arith) refl
head_valid (Delta c) is =
    let width : c.width ≤ c.lane_width = same_width c.width c.words c.lane_width is.packed is.words in
    header_valid c.lane_width (header_of (Delta c)) (omega (arith, width, lanes_small c.lane_width is.lane_width)) (le-leb _ _ width) (omega arith) refl
head_valid (Runs r) is =
    let few : run_of r.starts 1023 ≤ 1023 = count_below-le (λ i. has r.starts (suc i)) 1023 in
    let count : length r.values ≡ run_of r.starts 1023 + 1 = is.count in
    let some : 1 ≤ length r.values = omega arith in
    let many : length r.values ≤ 1024 = omega arith in
    header_valid r.lane_width (header_of (Runs r)) (omega arith) refl (omega (arith, many)) (and_from (leb 1 (length r.values)) (leb (length r.values) 1024) (le-leb _ _ some) (le-leb _ _ many))
head_valid (Dict d) is =
    let width : d.width ≤ 16 = same_width d.width d.codes 16 is.packed is.words in
    header_valid d.lane_width (header_of (Dict d)) (omega (arith, width)) (le-leb _ _ width) (omega (arith, is.many)) (and_from (leb 1 (length d.values)) (leb (length d.values) 1024) (le-leb _ _ (some_value d is)) (le-leb _ _ is.many))

-- a width fits in one byte
pub width_fits : (c : Coded) → IsCodedForm c → (header_of c).width < 256
width_fits (For c) is =
    let width : c.width ≤ c.lane_width = same_width c.width c.words c.lane_width is.packed is.words in omega (arith, width, lanes_small c.lane_width is.lane_width)
width_fits (Delta c) is =
    let width : c.width ≤ c.lane_width = same_width c.width c.words c.lane_width is.packed is.words in omega (arith, width, lanes_small c.lane_width is.lane_width)
width_fits (Runs r) is = omega arith
width_fits (Dict d) is = let width : d.width ≤ 16 = same_width d.width d.codes 16 is.packed is.words in omega (arith, width)

-- a count fits in two
pub count_fits : (c : Coded) → IsCodedForm c → (header_of c).count < 65536
count_fits (For c) is = omega arith
count_fits (Delta c) is = omega arith
count_fits (Runs r) is =
    let few : run_of r.starts 1023 ≤ 1023 = count_below-le (λ i. has r.starts (suc i)) 1023 in
    let count : length r.values ≡ run_of r.starts 1023 + 1 = is.count in
    omega arith
count_fits (Dict d) is = omega (arith, is.many)

payload_valid : (c : Coded) → IsCodedForm c → (payload (lane_width_of c) (header_of c)).valid c ≡ true
payload_valid (For c) is = frame_valid c is
payload_valid (Delta c) is = deltas_valid c is
payload_valid (Runs r) is = runs_valid r is
payload_valid (Dict d) is = dict_valid d is

pub coded_valid : (c : Coded) → IsCodedForm c → (coded (lane_width_of c)).valid c ≡ true
unfolding coded
coded_valid c is = and_from ((header (lane_width_of c)).valid (header_of c)) ((payload (lane_width_of c) (header_of c)).valid c) (head_valid c is) (payload_valid c is)

-- ---- vectors, columns and segments

pub vector_valid : (v : VectorForm) → IsVector v → (vector (lane_width_of v.coded) v.rows).valid v ≡ true
unfolding vector
vector_valid v is =
    rw (eq-eqb v.rows v.rows refl)
    (and_from ((nulls v.rows).valid v.nulls) ((coded (lane_width_of v.coded)).valid v.coded) (nulls_valid v.rows v.nulls is.limit is.nulls) (coded_valid v.coded is.form))

pub column_valid : (rows : ℕ) (vectors : List VectorForm) → IsColumn rows vectors → (column (width_in vectors) rows).valid vectors ≡ true
unfolding column
column_valid rows vectors is =
    all_valid (vector_count rows) (λ front. vector (width_in vectors) (rows_in rows (length front))) vectors is.count
    (λ n passed v e at.
    let width : lane_width_of v.coded ≡ width_in vectors = sym (width_of_vector rows vectors n v is e) in
    let covered : v.rows ≡ rows_in rows (length passed) = is.cover n v e ∙ ap (rows_in rows) (sym at) in
    subst (λ (t : ℕ). (vector t (rows_in rows (length passed))).valid v ≡ true) width
    (subst (λ (k : ℕ). (vector (lane_width_of v.coded) k).valid v ≡ true) covered (vector_valid v (is.each n v e))))

pub columns_valid : (rows : ℕ) (forms : List (List VectorForm)) → IsSegment rows forms → (columns (widths_in forms) rows).valid forms ≡ true
unfolding columns
columns_valid rows forms is =
    all_valid (length (widths_in forms)) (λ front. column (get_or (widths_in forms) (length front) 0) rows) forms (sym (length-map forms width_in))
    (λ c passed vectors e at.
    let width : get_or (widths_in forms) (length passed) 0 ≡ width_in vectors = ap (λ (n : ℕ). get_or (widths_in forms) n 0) at ∙ get_or-widths_in forms c vectors e in
    subst (λ (t : ℕ). (column t rows).valid vectors ≡ true) (sym width) (column_valid rows vectors (is.columns c vectors e)))

pub has_bytes : (s : SegmentForm) (rows : ℕ) (table : Table) → IsSegment rows s.forms → s.rows ≡ batch_of rows s.forms → widths_in s.forms ≡ widths_of table → HasBytesIn table s
has_bytes s rows table is same widths =
    let count : length s.rows ≡ rows = ap length same ∙ length-batch_of rows s.forms in
    subst (λ (ws : List ℕ). (columns ws (length s.rows)).valid s.forms ≡ true) widths
    (subst (λ (n : ℕ). (columns (widths_in s.forms) n).valid s.forms ≡ true) (sym count) (columns_valid rows s.forms is))
