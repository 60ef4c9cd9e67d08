-- A frame whose values don't wrap is in a range exactly where its packed numbers are in one.
use Rattle.std.proofs.Common.{◌≡◌, ℕ, ◌-◌, ◌^◌, ◌≤◌, ◌&&◌, true, false, nat_le, int_le, int_lt, ℤ, pos, ◌+ℤ◌, ◌-ℤ◌, ◌≤ℤ◌, ◌⊎◌, inl, inr, FitsSigned, to_z, of_z, sym, ap, ◌∙◌, subst, arith}
use Rattle.std.specs.Int.{w64, int_min, int_max}
use Rattle.std.proofs.lemmas.Int.{ints, clamps, int_wrap_fits, to_z-of_z}
use Rattle.std.proofs.lemmas.Bool.{cases_Bool}
use Rattle.std.proofs.lemmas.Bool.Decides.{nat_tests}
use Rattle.std.proofs.Math.Bool.{and-false}
use Rattle.transpose_order.specs.Mask.{rows_of}
use Rattle.transpose_order.specs.MaskWords.{rows_of-like}
use Rattle.transpose_order.specs.Place.{IsLaneWidth, lane_of, step_of}
use Rattle.transpose_order.proofs.WidthLemmas.{at_widths}
use Rattle.bit_interleave.specs.Arithmetic.{integer_width}
use Rattle.bit_interleave.specs.Packing.{packed_value}
use Rattle.bit_interleave.proofs.StepLemmas.{packed_value-below}
use Rattle.frame_delta.specs.Frame.{FrameForm, IsFrameForm, frame_value}
use Rattle.native_lanes.specs.Between.{between}
use Rattle.native_lanes.specs.Frames.{top_value, IsDecided}

pub fits_below : (t : ℕ) → IsLaneWidth t → (r : ℤ) (n k : ℕ) → FitsSigned (integer_width t) r → n ≤ k → (r +ℤ pos k) ≤ℤ pos (2 ^ (t - 1) - 1) → FitsSigned (integer_width t) (r +ℤ pos n)
fits_below =
    at_widths (λ t. (r : ℤ) (n k : ℕ) → FitsSigned (integer_width t) r → n ≤ k → (r +ℤ pos k) ≤ℤ pos (2 ^ (t - 1) - 1) → FitsSigned (integer_width t) (r +ℤ pos n))
    (λ r n k fits h l. record { sfits = grind (arith, ints) }) (λ r n k fits h l. record { sfits = grind (arith, ints) })
    (λ r n k fits h l. record { sfits = grind (arith, ints) }) (λ r n k fits h l. record { sfits = grind (arith, ints) })

pub plain_value : (form : FrameForm) (n k : ℕ) → IsFrameForm form → packed_value form.lane_width form.width form.words.numbers (lane_of form.lane_width n) (step_of form.lane_width n) ≤ k → (form.reference +ℤ pos k) ≤ℤ pos (2 ^ (form.lane_width - 1) - 1)
    → frame_value form n ≡ form.reference +ℤ pos (packed_value form.lane_width form.width form.words.numbers (lane_of form.lane_width n) (step_of form.lane_width n))
unfolding frame_value
plain_value form n k is h l =
    int_wrap_fits (integer_width form.lane_width) _ (fits_below form.lane_width is.lane_width form.reference _ k is.reference h l)

pub number_in_range : (r low high top : ℤ) (first last n k : ℕ) → top ≡ r +ℤ pos k → n ≤ k → pos first ≡ int_max low r -ℤ r → pos last ≡ int_min high top -ℤ r → (nat_le first n && nat_le n last) ≡ between low high (r +ℤ pos n)
number_in_range r low high top first last n k is h from upto =
    ap (λ b. b && nat_le n last) (lower r low first n from) ∙ ap (λ b. int_le low (r +ℤ pos n) && b) (upper r high top last n k is h upto)
  where
    lower : (r low : ℤ) (first n : ℕ) → pos first ≡ int_max low r -ℤ r → nat_le first n ≡ int_le low (r +ℤ pos n)
    lower r low first n from = grind (arith, ints, clamps, nat_tests)

    upper : (r high top : ℤ) (last n k : ℕ) → top ≡ r +ℤ pos k → n ≤ k → pos last ≡ int_min high top -ℤ r → nat_le n last ≡ int_le (r +ℤ pos n) high
    upper r high top last n k is h upto = grind (arith, ints, clamps, nat_tests)

-- a value is not below the reference, nor above the top
pub value_within : (form : FrameForm) (n : ℕ) (top : ℤ) → top ≡ form.reference +ℤ pos (2 ^ form.width - 1)
    → frame_value form n ≡ form.reference +ℤ pos (packed_value form.lane_width form.width form.words.numbers (lane_of form.lane_width n) (step_of form.lane_width n))
    → (form.reference ≤ℤ frame_value form n) × (frame_value form n ≤ℤ top)
value_within form n top e is =
    let below = packed_value-below form.lane_width form.width form.words.numbers (lane_of form.lane_width n) (step_of form.lane_width n) in
    (omega (arith, ints, is), omega (arith, ints, e, is, below))

-- ---- where the ends decide
pub all_between : (low high v least greatest : ℤ) → least ≤ℤ v → v ≤ℤ greatest → int_le low least ≡ true → int_le greatest high ≡ true → between low high v ≡ true
all_between low high v least greatest a b c d =
    let l : int_le low v ≡ true = grind (arith, ints) in
    let h : int_le v high ≡ true = grind (arith, ints) in
    ap (λ x. x && int_le v high) l ∙ h

pub none_below : (low high v least : ℤ) → least ≤ℤ v → int_lt high least ≡ true → between low high v ≡ false
none_below low high v least a b =
    let h : int_le v high ≡ false = grind (arith, ints) in
    ap (λ x. int_le low v && x) h ∙ and-false (int_le low v)

pub none_above : (low high v greatest : ℤ) → v ≤ℤ greatest → int_lt greatest low ≡ true → between low high v ≡ false
none_above low high v greatest a b =
    let l : int_le low v ≡ false = grind (arith, ints) in
    ap (λ x. x && int_le v high) l

pub none_crossed : (low high v : ℤ) → int_lt high low ≡ true → between low high v ≡ false
none_crossed low high v a = by_case (cases_Bool (int_le low v))
  where
    by_case : (int_le low v ≡ true) ⊎ (int_le low v ≡ false) → between low high v ≡ false
    by_case (inl l) =
        let h : int_le v high ≡ false = grind (arith, ints) in
        ap (λ x. x && int_le v high) l ∙ h
    by_case (inr l) = ap (λ x. x && int_le v high) l

-- what the ends decide, none of the tests leaves
pub decided_by_ends : (form : FrameForm) (low high r upper below above : ℤ) → r ≡ form.reference → upper ≡ top_value form → below ≡ low → above ≡ high
    → int_lt above r ≡ false → int_lt upper below ≡ false → int_lt above below ≡ false → (int_le below r ≡ false) ⊎ (int_le upper above ≡ false) → IsDecided form low high → ⊥
decided_by_ends form low high r upper below above re te le he a b c d (inl h) = absurd (grind (arith, ints, re, te, le, he, a, h))
decided_by_ends form low high r upper below above re te le he a b c d (inr (inl h)) = absurd (grind (arith, ints, re, te, le, he, b, h))
decided_by_ends form low high r upper below above re te le he a b c d (inr (inr (inl h))) = absurd (grind (arith, ints, re, te, le, he, c, h))
decided_by_ends form low high r upper below above re te le he a b c (inl d) (inr (inr (inr h))) = absurd (grind (arith, ints, re, te, le, he, d, h.0))
decided_by_ends form low high r upper below above re te le he a b c (inr d) (inr (inr (inr h))) = absurd (grind (arith, ints, re, te, le, he, d, h.1))

-- the part of a range that lies between two ends
pub ends_cross_not : (low high least greatest : ℤ) → least ≤ℤ greatest → int_lt high least ≡ false → int_lt greatest low ≡ false → int_lt high low ≡ false → int_max low least ≤ℤ int_min high greatest
ends_cross_not low high least greatest a b c d = grind (arith, ints, clamps)

pub not_above : (a b x y : ℤ) → a ≡ x → b ≡ y → int_lt a b ≡ false → y ≤ℤ x
not_above a b x y e d h = grind (arith, ints)

-- a number of 64 bits as it is passed
pub passed : (x y : ℤ) → FitsSigned w64 x → x ≡ y → to_z w64 (of_z w64 x) ≡ y
passed x y fits e = to_z-of_z w64 x fits ∙ e

-- the same, of a reference and a top as they are passed
pub passed_within : (form : FrameForm) (n : ℕ) (r upper top : ℤ) → r ≡ form.reference → upper ≡ top → top ≡ form.reference +ℤ pos (2 ^ form.width - 1)
    → frame_value form n ≡ form.reference +ℤ pos (packed_value form.lane_width form.width form.words.numbers (lane_of form.lane_width n) (step_of form.lane_width n))
    → (r ≤ℤ frame_value form n) × (frame_value form n ≤ℤ upper)
passed_within form n r upper top re te e is =
    let both = value_within form n top e is in
    (subst (λ z. z ≤ℤ frame_value form n) (sym re) both.0, subst (λ z. frame_value form n ≤ℤ z) (sym te) both.1)

pub passed_order : (r upper reference top : ℤ) (k : ℕ) → r ≡ reference → upper ≡ top → top ≡ reference +ℤ pos k → r ≤ℤ upper
passed_order r upper reference top k re te e = omega (arith, ints, re, te, e)

pub least_end : (high top r : ℤ) → int_lt high r ≡ false → r ≤ℤ top → r ≤ℤ int_min high top
least_end high top r a b = grind (arith, ints, clamps)

pub least_end_below : (high top : ℤ) → int_min high top ≤ℤ top
least_end_below high top = grind (arith, ints, clamps)

-- bounds of 64 bits as they are passed
pub passed_between : (low high v : ℤ) → FitsSigned w64 low → FitsSigned w64 high → between (to_z w64 (of_z w64 low)) (to_z w64 (of_z w64 high)) v ≡ between low high v
passed_between low high v fl fh =
    ap (λ x. between x (to_z w64 (of_z w64 high)) v) (to_z-of_z w64 low fl) ∙ ap (λ x. between low x v) (to_z-of_z w64 high fh)

pub rows_passed : (low high : ℤ) (value : ℕ → ℤ) → FitsSigned w64 low → FitsSigned w64 high → rows_of (λ n. between (to_z w64 (of_z w64 low)) (to_z w64 (of_z w64 high)) (value n)) ≡ rows_of (λ n. between low high (value n))
rows_passed low high value fl fh =
    rows_of-like (λ n. between (to_z w64 (of_z w64 low)) (to_z w64 (of_z w64 high)) (value n)) (λ n. between low high (value n)) (λ n h. passed_between low high (value n) fl fh)
