-- Numbers that are a reference plus packed numbers, modulo a power of two: the form is the least one exactly where the
-- least packed number is 0 and the greatest one's sum does not wrap.
use Rattle.std.proofs.Common.{◌≡◌, ℕ, ◌^◌, ◌<◌, ◌≤◌, ℤ, pos, ◌+ℤ◌, ◌≤ℤ◌, Bool, true, inl, inr, sym, ap, ◌∙◌, subst, arith}
use Rattle.std.specs.Int.{int_wrap, int_gap}
use Rattle.std.specs.Int.RustNames.{FitsSigned}
use Rattle.std.proofs.lemmas.Int.{ints, int_wrap_fits, SFits-int_wrap}
use Rattle.std.proofs.Math.Nat.{pow-le-pow_right}
use Rattle.transpose_order.specs.Place.{IsLaneWidth}
use Rattle.bit_interleave.specs.Arithmetic.{integer_width, least_width}
use Rattle.bit_interleave.proofs.LeastWidthLemmas.{least_width-holds, least_width-least}
use Rattle.bit_interleave.proofs.StepLemmas.{narrow_width}
use Rattle.bit_interleave.proofs.GapLemmas.{gap_back, gap_within}
use Rattle.frame_delta.specs.Extremes.{least_among, greatest_among}
use Rattle.frame_delta.proofs.GapLemmas.{gap_of_sum, gap_of_self, gap_fits, sum_stays, between_fits}
use Rattle.frame_delta.proofs.ExtremeLemmas.{IsLow, IsHigh, IsOne, least_among-bound, least_among-one, least_among-unique, greatest_among-bound, greatest_among-one, greatest_among-unique}

-- the f n of the n below 1024 that pass p are r plus g n, modulo two to the power of t, and m is the first that passes
pub record IsFramed (t : ℕ) (p : ℕ → Bool) (f : ℕ → ℤ) (r : ℤ) (g : ℕ → ℕ) (m : ℕ) : Type 0 where
  pub width : IsLaneWidth t
  pub fits : FitsSigned (integer_width t) r
  pub sums : (n : ℕ) → n < 1024 → p n ≡ true → f n ≡ int_wrap (integer_width t) (r +ℤ pos (g n))
  pub small : (n : ℕ) → n < 1024 → p n ≡ true → g n < 2 ^ t
  pub passes : p m ≡ true
  pub within : m < 1024

unfoldable pub least_of : (ℕ → Bool) → (ℕ → ℤ) → ℕ → ℤ
least_of p f m = least_among p f (f m) 1024

unfoldable pub greatest_of : (ℕ → Bool) → (ℕ → ℤ) → ℕ → ℤ
greatest_of p f m = greatest_among p f (f m) 1024

-- where an extreme is reached
pub record IsAt (p : ℕ → Bool) (f : ℕ → ℤ) (x : ℤ) : Type 0 where
  pub place : ℕ
  pub within : place < 1024
  pub passes : p place ≡ true
  pub is : x ≡ f place

one_is_at : (p : ℕ → Bool) (f : ℕ → ℤ) (m : ℕ) (x : ℤ) → p m ≡ true → m < 1024 → IsOne p f (f m) 1024 x → IsAt p f x
one_is_at p f m x passes within (inl e) = record { place = m; within = within; passes = passes; is = e }
one_is_at p f m x passes within (inr w) = record { place = w.0; within = w.1; passes = w.2; is = w.3 }

pub least_is_at : (p : ℕ → Bool) (f : ℕ → ℤ) (m : ℕ) → p m ≡ true → m < 1024 → IsAt p f (least_of p f m)
unfolding least_of
least_is_at p f m passes within = one_is_at p f m _ passes within (least_among-one p f (f m) 1024)

pub greatest_is_at : (p : ℕ → Bool) (f : ℕ → ℤ) (m : ℕ) → p m ≡ true → m < 1024 → IsAt p f (greatest_of p f m)
unfolding greatest_of
greatest_is_at p f m passes within = one_is_at p f m _ passes within (greatest_among-one p f (f m) 1024)

pub least_is_low : (p : ℕ → Bool) (f : ℕ → ℤ) (m : ℕ) → IsLow p f (f m) 1024 (least_of p f m)
unfolding least_of
least_is_low p f m = least_among-bound p f (f m) 1024

pub greatest_is_high : (p : ℕ → Bool) (f : ℕ → ℤ) (m : ℕ) → IsHigh p f (f m) 1024 (greatest_of p f m)
unfolding greatest_of
greatest_is_high p f m = greatest_among-bound p f (f m) 1024

pub least_not_above : (p : ℕ → Bool) (f : ℕ → ℤ) (m : ℕ) → least_of p f m ≤ℤ greatest_of p f m
least_not_above p f m = omega (arith, ints, (least_is_low p f m).first_bound, (greatest_is_high p f m).first_bound)

-- each number that passes fits
pub framed_fits : (t : ℕ) (p : ℕ → Bool) (f : ℕ → ℤ) (r : ℤ) (g : ℕ → ℕ) (m : ℕ) → IsFramed t p f r g m → (n : ℕ) → n < 1024 → p n ≡ true → FitsSigned (integer_width t) (f n)
framed_fits t p f r g m framed n h pass =
    subst (λ (z : ℤ). FitsSigned (integer_width t) z) (sym (framed.sums n h pass)) (SFits-int_wrap (integer_width t) (r +ℤ pos (g n)))

-- ---- the conditions that are tested
pub record IsTight (t : ℕ) (p : ℕ → Bool) (r : ℤ) (g : ℕ → ℕ) (hi : ℕ) : Type 0 where
  pub bound : (n : ℕ) → n < 1024 → p n ≡ true → g n ≤ hi
  pub reached_at : ℕ
  pub reached_within : reached_at < 1024
  pub reached_passes : p reached_at ≡ true
  pub reached : g reached_at ≡ hi
  pub zero_at : ℕ
  pub zero_within : zero_at < 1024
  pub zero_passes : p zero_at ≡ true
  pub zero : g zero_at ≡ 0
  pub stays : r ≤ℤ int_wrap (integer_width t) (r +ℤ pos hi)

-- where nothing wraps, each number is the sum itself
tight_sum : (t : ℕ) (p : ℕ → Bool) (f : ℕ → ℤ) (r : ℤ) (g : ℕ → ℕ) (m hi : ℕ) → IsFramed t p f r g m → IsTight t p r g hi → (n : ℕ) → n < 1024 → p n ≡ true → f n ≡ r +ℤ pos (g n)
tight_sum t p f r g m hi framed tight n h pass =
    let small : hi < 2 ^ t = subst (λ (x : ℕ). x < 2 ^ t) tight.reached (framed.small tight.reached_at tight.reached_within tight.reached_passes) in
    let top = sum_stays t hi r framed.width framed.fits small tight.stays in
    let top_fits : FitsSigned (integer_width t) (r +ℤ pos hi) = subst (λ (z : ℤ). FitsSigned (integer_width t) z) top (SFits-int_wrap (integer_width t) (r +ℤ pos hi)) in
    let below = tight.bound n h pass in
    framed.sums n h pass ∙ int_wrap_fits (integer_width t) (r +ℤ pos (g n)) (between_fits t r (r +ℤ pos (g n)) (r +ℤ pos hi) framed.width framed.fits top_fits (omega (arith, ints)) (omega (arith, ints)))

pub tight_least : (t : ℕ) (p : ℕ → Bool) (f : ℕ → ℤ) (r : ℤ) (g : ℕ → ℕ) (m hi : ℕ) → IsFramed t p f r g m → IsTight t p r g hi → least_of p f m ≡ r
unfolding least_of
tight_least t p f r g m hi framed tight =
    let sum = tight_sum t p f r g m hi framed tight in
    least_among-unique p f (f m) 1024 r
    (record {
      first_bound = omega (arith, ints, sum m framed.within framed.passes);
      each_bound = λ n h pass. omega (arith, ints, sum n h pass);
    })
    (inr (tight.zero_at, tight.zero_within, tight.zero_passes, omega (arith, ints, sum tight.zero_at tight.zero_within tight.zero_passes, tight.zero)))

pub tight_greatest : (t : ℕ) (p : ℕ → Bool) (f : ℕ → ℤ) (r : ℤ) (g : ℕ → ℕ) (m hi : ℕ) → IsFramed t p f r g m → IsTight t p r g hi → greatest_of p f m ≡ r +ℤ pos hi
unfolding greatest_of
tight_greatest t p f r g m hi framed tight =
    let sum = tight_sum t p f r g m hi framed tight in
    greatest_among-unique p f (f m) 1024 (r +ℤ pos hi)
    (record {
      first_bound = omega (arith, ints, sum m framed.within framed.passes, tight.bound m framed.within framed.passes);
      each_bound = λ n h pass. omega (arith, ints, sum n h pass, tight.bound n h pass);
    })
    (inr (tight.reached_at, tight.reached_within, tight.reached_passes, omega (arith, ints, sum tight.reached_at tight.reached_within tight.reached_passes, tight.reached)))

-- so the range is the greatest packed number, and each packed number is the gap above the least
pub tight_range : (t : ℕ) (p : ℕ → Bool) (f : ℕ → ℤ) (r : ℤ) (g : ℕ → ℕ) (m hi : ℕ) → IsFramed t p f r g m → IsTight t p r g hi → int_gap (least_of p f m) (greatest_of p f m) ≡ hi
tight_range t p f r g m hi framed tight =
    gap_of_sum (least_of p f m) (greatest_of p f m) hi (tight_greatest t p f r g m hi framed tight ∙ ap (λ z. z +ℤ pos hi) (sym (tight_least t p f r g m hi framed tight)))

pub tight_gaps : (t : ℕ) (p : ℕ → Bool) (f : ℕ → ℤ) (r : ℤ) (g : ℕ → ℕ) (m hi : ℕ) → IsFramed t p f r g m → IsTight t p r g hi → (n : ℕ) → n < 1024 → p n ≡ true → int_gap (least_of p f m) (f n) ≡ g n
tight_gaps t p f r g m hi framed tight n h pass =
    gap_of_sum (least_of p f m) (f n) (g n) (tight_sum t p f r g m hi framed tight n h pass ∙ ap (λ z. z +ℤ pos (g n)) (sym (tight_least t p f r g m hi framed tight)))

-- ---- the least form is tight
pub least_form_is_tight : (t : ℕ) (p : ℕ → Bool) (f : ℕ → ℤ) (r : ℤ) (g : ℕ → ℕ) (m : ℕ) → IsFramed t p f r g m → r ≡ least_of p f m → ((n : ℕ) → n < 1024 → p n ≡ true → g n ≡ int_gap (least_of p f m) (f n)) → IsTight t p r g (int_gap (least_of p f m) (greatest_of p f m))
least_form_is_tight t p f r g m framed least gaps =
    let low = least_is_low p f m in
    let high = greatest_is_high p f m in
    let bottom = least_is_at p f m framed.passes framed.within in
    let top = greatest_is_at p f m framed.passes framed.within in
    let sum : r +ℤ pos (int_gap (least_of p f m) (greatest_of p f m)) ≡ greatest_of p f m = ap (λ z. z +ℤ pos (int_gap (least_of p f m) (greatest_of p f m))) least ∙ gap_back (least_of p f m) (greatest_of p f m) (least_not_above p f m) in
    let top_fits : FitsSigned (integer_width t) (greatest_of p f m) = subst (λ (z : ℤ). FitsSigned (integer_width t) z) (sym top.is) (framed_fits t p f r g m framed top.place top.within top.passes) in
    let wrapped : int_wrap (integer_width t) (r +ℤ pos (int_gap (least_of p f m) (greatest_of p f m))) ≡ greatest_of p f m = ap (int_wrap (integer_width t)) sum ∙ int_wrap_fits (integer_width t) (greatest_of p f m) top_fits in
    record {
      bound = λ n h pass. subst (λ (x : ℕ). x ≤ int_gap (least_of p f m) (greatest_of p f m)) (sym (gaps n h pass)) (gap_within (least_of p f m) (least_of p f m) (f n) (greatest_of p f m) (omega (arith, ints)) (low.each_bound n h pass) (high.each_bound n h pass));
      reached_at = top.place;
      reached_within = top.within;
      reached_passes = top.passes;
      reached = gaps top.place top.within top.passes ∙ ap (int_gap (least_of p f m)) (sym top.is);
      zero_at = bottom.place;
      zero_within = bottom.within;
      zero_passes = bottom.passes;
      zero = gaps bottom.place bottom.within bottom.passes ∙ ap (int_gap (least_of p f m)) (sym bottom.is) ∙ gap_of_self (least_of p f m);
      stays = subst (λ (z : ℤ). r ≤ℤ z) (sym wrapped) (subst (λ (z : ℤ). z ≤ℤ greatest_of p f m) (sym least) (least_not_above p f m));
    }

-- ---- widths
-- the least width is within the lane, and holds each gap
pub range_in_lane : (t : ℕ) (p : ℕ → Bool) (f : ℕ → ℤ) (m : ℕ) → IsLaneWidth t → p m ≡ true → m < 1024 → ((n : ℕ) → n < 1024 → p n ≡ true → FitsSigned (integer_width t) (f n)) → int_gap (least_of p f m) (greatest_of p f m) < 2 ^ t
range_in_lane t p f m width passes within fits =
    let bottom = least_is_at p f m passes within in
    let top = greatest_is_at p f m passes within in
    gap_fits t (least_of p f m) (greatest_of p f m) width
    (subst (λ (z : ℤ). FitsSigned (integer_width t) z) (sym bottom.is) (fits bottom.place bottom.within bottom.passes))
    (subst (λ (z : ℤ). FitsSigned (integer_width t) z) (sym top.is) (fits top.place top.within top.passes))
    (least_not_above p f m)

pub below_word : (t x : ℕ) → IsLaneWidth t → x < 2 ^ t → x < 2 ^ 64
below_word t x width h =
    let base : 0 < 2 = omega arith in
    omega (arith, pow-le-pow_right base (narrow_width t width))

pub width_in_lane : (t x : ℕ) → IsLaneWidth t → x < 2 ^ t → least_width x ≤ t
width_in_lane t x width h = least_width-least x t (below_word t x width h) h

pub gap_has_width : (t : ℕ) (p : ℕ → Bool) (f : ℕ → ℤ) (m n : ℕ) → IsLaneWidth t → int_gap (least_of p f m) (greatest_of p f m) < 2 ^ t → n < 1024 → p n ≡ true → int_gap (least_of p f m) (f n) < 2 ^ least_width (int_gap (least_of p f m) (greatest_of p f m))
gap_has_width t p f m n width small h pass =
    omega (arith, gap_within (least_of p f m) (least_of p f m) (f n) (greatest_of p f m) (omega (arith, ints)) ((least_is_low p f m).each_bound n h pass) ((greatest_is_high p f m).each_bound n h pass), least_width-holds (int_gap (least_of p f m) (greatest_of p f m)) (below_word t (int_gap (least_of p f m) (greatest_of p f m)) width small))

-- no form whose reference is above none of its numbers has a smaller width
pub no_smaller_width : (t : ℕ) (p : ℕ → Bool) (f : ℕ → ℤ) (r : ℤ) (g : ℕ → ℕ) (m w : ℕ) → IsFramed t p f r g m → ((n : ℕ) → n < 1024 → p n ≡ true → r ≤ℤ f n) → ((n : ℕ) → n < 1024 → p n ≡ true → g n < 2 ^ w) → w ≤ t → least_width (int_gap (least_of p f m) (greatest_of p f m)) ≤ w
no_smaller_width t p f r g m w framed above packed within =
    let bottom = least_is_at p f m framed.passes framed.within in
    let top = greatest_is_at p f m framed.passes framed.within in
    let n = top.place in
    let low : r ≤ℤ int_wrap (integer_width t) (r +ℤ pos (g n)) = subst (λ (z : ℤ). r ≤ℤ z) (framed.sums n top.within top.passes) (above n top.within top.passes) in
    let sum : greatest_of p f m ≡ r +ℤ pos (g n) = top.is ∙ framed.sums n top.within top.passes ∙ sum_stays t (g n) r framed.width framed.fits (framed.small n top.within top.passes) low in
    let bottom_above : r ≤ℤ least_of p f m = subst (λ (z : ℤ). r ≤ℤ z) (sym bottom.is) (above bottom.place bottom.within bottom.passes) in
    let range : int_gap (least_of p f m) (greatest_of p f m) ≤ g n = omega (arith, ints, gap_back (least_of p f m) (greatest_of p f m) (least_not_above p f m)) in
    let small : int_gap (least_of p f m) (greatest_of p f m) < 2 ^ w = omega (arith, packed n top.within top.passes) in
    let word : int_gap (least_of p f m) (greatest_of p f m) < 2 ^ 64 = below_word t (int_gap (least_of p f m) (greatest_of p f m)) framed.width (omega (arith, framed.small n top.within top.passes)) in
    least_width-least (int_gap (least_of p f m) (greatest_of p f m)) w word small
