-- What refutes that a coding is chosen, and what makes a form the canonical one.
use Rattle.std.proofs.Common.{◌≡◌, ◌↔◌, IsTrue, ℕ, ◌+◌, ◌*◌, ◌/◌, ◌-◌, ◌<◌, ◌≤◌, ◌≤ℤ◌, ◌⊎◌, inl, inr, Bool, true, false, not, ◌&&◌, nat_lt, ℤ, pos, List, refl, sym, ◌∙◌, ap, subst, arith}
use Rattle.std.specs.Int.{w64, int_gap}
use Rattle.std.specs.Int.RustNames.{FitsSigned}
use mir.Val.{to_z, of_z}
use Rattle.std.proofs.lemmas.Int.{to_z-of_z}
use Rattle.std.specs.Ordering.{int_eq}
use Rattle.std.proofs.lemmas.Bool.{cases_lt}
use Rattle.std.proofs.lemmas.Bool.Decides.{nat_tests, Decides-int_eq}
use Rattle.transpose_order.specs.Mask.{has}
use Rattle.transpose_order.specs.MaskWords.{has-rows_of}
use Rattle.bit_interleave.specs.Arithmetic.{least_width}
use Rattle.bit_interleave.specs.Range.{value_at}
use Rattle.frame_delta.specs.Frame.{frame_bytes, frame_width, least_frame, least_value, greatest_value, TellApart}
use Rattle.frame_delta.proofs.ExtremeLemmas.{least_among_is_least, greatest_among_is_greatest}
use Rattle.frame_delta.proofs.FrameLemmas.{frame_width_is, column_fits}
use Rattle.run_dictionary.specs.Runs.{least_runs, changes_at}
use Rattle.segment_core.specs.Coded.{value_in, lane_width_of, values_of, coding_of, least_form, IsCodedForm}
use Rattle.segment_core.specs.Choice.{choice, least_bytes, place_in_order, IsFirstFewest}
use Rattle.segment_core.specs.Repeats.{RepeatByPlace}
use Rattle.segment_core.specs.CanonicalForm.{IsCanonicalForm}
use Rattle.segment_core.specs.declared.coding.Coding.{Coding}
use Rattle.segment_core.specs.declared.coded.Coded.{Coded}
use Rattle.segment_core.specs.declared.coding.Coding.TheVariants.{For, Delta, Runs, Dict}
use Rattle.segment_core.proofs.ChoiceLemmas.{chosen_is, at_least, choice_of_frame, choice_of_deltas, choice_of_runs, choice_of_dictionary}
use Rattle.segment_core.proofs.NumberLemmas.{repeats_are}
use Rattle.segment_core.proofs.CodedLemmas.{length-values_of, value_at-values_of, AreInRange-values_of}
use Rattle.segment_core.proofs.VectorLemmas.{lane_width_is}
use Rattle.bit_interleave.proofs.WrapLemmas.{fits_wide}

-- ---- bytes that refute a choice
chosen_first : (t : ℕ) (values : List ℤ) (coding : Coding) → choice t values ≡ coding → IsFirstFewest (least_bytes t values) coding
unfolding choice
chosen_first t values coding e = (chosen_is (least_bytes t values) coding).0 e

-- another coding takes fewer bytes
pub not_fewest : (t : ℕ) (values : List ℤ) (coding other : Coding) (bytes : ℕ) → bytes ≡ least_bytes t values coding → least_bytes t values other < bytes → choice t values ≡ coding → ⊥
not_fewest t values coding other bytes own less e = let h = (chosen_first t values coding e).fewest other in omega arith

-- a coding before takes no more bytes
pub not_first : (t : ℕ) (values : List ℤ) (coding other : Coding) (bytes : ℕ) → bytes ≡ least_bytes t values coding → place_in_order other < place_in_order coding → least_bytes t values other ≤ bytes → choice t values ≡ coding → ⊥
not_first t values coding other bytes own before most e = let h = (chosen_first t values coding e).first other before in omega arith

-- what is not below a bound is at least the bound
pub not_below : (b : Bool) (more bytes : ℕ) → (IsTrue b ↔ (more < bytes)) → (IsTrue (not b) ↔ (bytes ≤ more))
not_below true more bytes h = (λ no. absurd (cc), λ most. absurd (let less = h.0 refl in omega arith))
not_below false more bytes h = (λ _. at_least false more bytes h refl, λ _. refl)

-- ---- bytes that make a choice
pub frame_wins : (t : ℕ) (values : List ℤ) (bytes : ℕ) → bytes ≡ least_bytes t values For → bytes ≤ least_bytes t values Delta → bytes ≤ least_bytes t values Runs → bytes ≤ least_bytes t values Dict → choice t values ≡ For
frame_wins t values bytes own d r k =
    (choice_of_frame t values).1 (subst (λ (n : ℕ). n ≤ least_bytes t values Delta) own d, subst (λ (n : ℕ). n ≤ least_bytes t values Runs) own r, subst (λ (n : ℕ). n ≤ least_bytes t values Dict) own k)

pub deltas_win : (t : ℕ) (values : List ℤ) (bytes : ℕ) → bytes ≡ least_bytes t values Delta → bytes < least_bytes t values For → bytes ≤ least_bytes t values Runs → bytes ≤ least_bytes t values Dict → choice t values ≡ Delta
deltas_win t values bytes own f r k =
    (choice_of_deltas t values).1 (subst (λ (n : ℕ). n < least_bytes t values For) own f, subst (λ (n : ℕ). n ≤ least_bytes t values Runs) own r, subst (λ (n : ℕ). n ≤ least_bytes t values Dict) own k)

pub runs_win : (t : ℕ) (values : List ℤ) (bytes : ℕ) → bytes ≡ least_bytes t values Runs → bytes < least_bytes t values For → bytes < least_bytes t values Delta → bytes ≤ least_bytes t values Dict → choice t values ≡ Runs
runs_win t values bytes own f d k =
    (choice_of_runs t values).1 (subst (λ (n : ℕ). n < least_bytes t values For) own f, subst (λ (n : ℕ). n < least_bytes t values Delta) own d, subst (λ (n : ℕ). n ≤ least_bytes t values Dict) own k)

pub dictionary_wins : (t : ℕ) (values : List ℤ) (bytes : ℕ) → bytes ≡ least_bytes t values Dict → bytes < least_bytes t values For → bytes < least_bytes t values Delta → bytes < least_bytes t values Runs → choice t values ≡ Dict
dictionary_wins t values bytes own f d r =
    (choice_of_dictionary t values).1 (subst (λ (n : ℕ). n < least_bytes t values For) own f, subst (λ (n : ℕ). n < least_bytes t values Delta) own d, subst (λ (n : ℕ). n < least_bytes t values Runs) own r)

-- ---- the bytes of the least frame
pub least_frame_bytes : (t : ℕ) (values : List ℤ) → frame_bytes (least_frame t values) ≡ t / 8 + 128 * frame_width values
unfolding least_frame
least_frame_bytes t values = refl

least_is : (values : List ℤ) (low : ℤ) → ((n : ℕ) → n < 1024 → low ≤ℤ value_at values n) → (n : ℕ) × (n < 1024) × (value_at values n ≡ low) → low ≡ least_value values
unfolding least_value
least_is values low bound reached =
    (least_among_is_least (λ _. true) (value_at values) 0 1024 (omega arith) refl low).1
    (record { bound = λ n l _. bound n l; reached = (reached.0, reached.1, refl, sym reached.2) })

greatest_is : (values : List ℤ) (high : ℤ) → ((n : ℕ) → n < 1024 → value_at values n ≤ℤ high) → (n : ℕ) × (n < 1024) × (value_at values n ≡ high) → high ≡ greatest_value values
unfolding greatest_value
greatest_is values high bound reached =
    (greatest_among_is_greatest (λ _. true) (value_at values) 0 1024 (omega arith) refl high).1
    (record { bound = λ n l _. bound n l; reached = (reached.0, reached.1, refl, sym reached.2) })

-- they follow from the least and the greatest value
pub bytes_between : (t : ℕ) (values : List ℤ) (low high : ℤ) → ((n : ℕ) → n < 1024 → (low ≤ℤ value_at values n) × (value_at values n ≤ℤ high)) → (n : ℕ) × (n < 1024) × (value_at values n ≡ low) → (n : ℕ) × (n < 1024) × (value_at values n ≡ high) → t / 8 + 128 * least_width (int_gap low high) ≡ frame_bytes (least_frame t values)
bytes_between t values low high bounds least greatest =
    let l : low ≡ least_value values = least_is values low (λ n b. (bounds n b).0) least in
    let g : high ≡ greatest_value values = greatest_is values high (λ n b. (bounds n b).1) greatest in
    ap (λ x. t / 8 + 128 * least_width (int_gap x high)) l ∙ ap (λ x. t / 8 + 128 * least_width (int_gap (least_value values) x)) g
    ∙ ap (λ w. t / 8 + 128 * w) (sym (frame_width_is values)) ∙ sym (least_frame_bytes t values)

-- ---- runs that repeat
pub no_change : (values : List ℤ) (n : ℕ) → 0 < n → changes_at (value_at values) n ≡ false → value_at values n ≡ value_at values (n - 1)
unfolding changes_at
no_change values n some e =
    let later : nat_lt 0 n ≡ true = grind (arith, nat_tests) in
    let same : not (int_eq (value_at values n) (value_at values (n - 1))) ≡ false = sym (ap (λ b. b && not (int_eq (value_at values n) (value_at values (n - 1)))) later) ∙ e in
    (Decides-int_eq (value_at values n) (value_at values (n - 1))).0 (not_false (int_eq (value_at values n) (value_at values (n - 1))) same)
  where
    not_false : (b : Bool) → not b ≡ false → b ≡ true
    not_false true h = refl
    not_false false h = absurd (cc)

pub is_no_change : (values : List ℤ) (n : ℕ) → (0 < n) ⊎ (n ≤ 0) → (0 < n → value_at values n ≡ value_at values (n - 1)) → changes_at (value_at values) n ≡ false
unfolding changes_at
is_no_change values n (inl some) e =
    let same : int_eq (value_at values n) (value_at values (n - 1)) ≡ true = (Decides-int_eq (value_at values n) (value_at values (n - 1))).1 (e some) in
    let later : nat_lt 0 n ≡ true = grind (arith, nat_tests) in
    ap (λ b. b && not (int_eq (value_at values n) (value_at values (n - 1)))) later ∙ ap not same
is_no_change values n (inr none) e =
    let first : nat_lt 0 n ≡ false = grind (arith, nat_tests) in
    ap (λ b. b && not (int_eq (value_at values n) (value_at values (n - 1)))) first

both_at : (a b : Bool) → (a ≡ true → b ≡ false) → (a && b) ≡ false
both_at true b h = h refl
both_at false b h = refl

-- rows repeat the row before exactly where no least run starts at one of them
pub runs_repeat : (t : ℕ) (rows : List Bool) (values : List ℤ) → ((n : ℕ) → n < 1024 → (has rows n && has (least_runs t values).starts n) ≡ false) ↔ ((n : ℕ) → 0 < n → n < 1024 → has rows n ≡ true → value_at values n ≡ value_at values (n - 1))
runs_repeat t rows values = (
  λ h n some l m. no_change values n some (sym (has-rows_of (changes_at (value_at values)) n l) ∙ sym (ap (λ b. b && has (least_runs t values).starts n) m) ∙ h n l),
  λ h n l. both_at (has rows n) (has (least_runs t values).starts n)
      (λ m. has-rows_of (changes_at (value_at values)) n l ∙ is_no_change values n (cases_lt 0 n) (λ some. h n some l m)),
)

-- ---- the canonical form
pub is_canonical_form : (rows : List Bool) (valueless : Bool) (numbers : List ℕ) (c : Coded) → TellApart numbers (values_of c) → (valueless ≡ true → value_at (values_of c) 0 ≡ pos 0) → RepeatByPlace rows numbers → c ≡ least_form (coding_of c) (lane_width_of c) (values_of c) → choice (lane_width_of c) (values_of c) ≡ coding_of c → IsCanonicalForm rows valueless c
is_canonical_form rows valueless numbers c apart zero repeat least chosen = record {
  filled = (repeats_are rows valueless numbers (values_of c) apart).1 (repeat, zero);
  least = least;
  chosen = chosen;
}

-- ---- the least frame of values whose ends are known
wide_value : (c : Coded) → IsCodedForm c → (n : ℕ) → n < 1024 → (z : ℤ) → value_in c n ≡ z → FitsSigned w64 z
wide_value c is n l z e =
    subst (λ (x : ℤ). FitsSigned w64 x) (value_at-values_of c n l ∙ e)
    (fits_wide (lane_width_of c) (value_at (values_of c) n) (lane_width_is c is) (column_fits (lane_width_of c) (values_of c) n (omega (arith, length-values_of c)) (AreInRange-values_of c is)))

pub frame_of_ends : (c : Coded) (t size : ℕ) (low high : ℤ) → IsCodedForm c → t ≡ lane_width_of c → size ≡ t / 8 + 128 * least_width (int_gap (to_z w64 (of_z w64 low)) (to_z w64 (of_z w64 high))) → ((n : ℕ) → n < 1024 → (low ≤ℤ value_in c n) × (value_in c n ≤ℤ high)) → (n : ℕ) × (n < 1024) × (value_in c n ≡ low) → (n : ℕ) × (n < 1024) × (value_in c n ≡ high) → size ≡ frame_bytes (least_frame (lane_width_of c) (values_of c))
frame_of_ends c t size low high is width e bounds least greatest =
    let l : to_z w64 (of_z w64 low) ≡ low = to_z-of_z w64 low (wide_value c is least.0 least.1 low least.2) in
    let h : to_z w64 (of_z w64 high) ≡ high = to_z-of_z w64 high (wide_value c is greatest.0 greatest.1 high greatest.2) in
    e ∙ ap (λ x. t / 8 + 128 * least_width (int_gap x (to_z w64 (of_z w64 high)))) l
    ∙ ap (λ x. t / 8 + 128 * least_width (int_gap low x)) h
    ∙ ap (λ u. u / 8 + 128 * least_width (int_gap low high)) width
    ∙ bytes_between (lane_width_of c) (values_of c) low high
    (λ n b. (subst (λ (x : ℤ). low ≤ℤ x) (sym (value_at-values_of c n b)) (bounds n b).0, subst (λ (x : ℤ). x ≤ℤ high) (sym (value_at-values_of c n b)) (bounds n b).1))
    (least.0, least.1, value_at-values_of c least.0 least.1 ∙ least.2)
    (greatest.0, greatest.1, value_at-values_of c greatest.0 greatest.1 ∙ greatest.2)
