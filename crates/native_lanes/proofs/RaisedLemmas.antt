-- Numbers of a lane's bits that say how far a signed value is above the least of those bits.
use Rattle.std.proofs.Common.{◌≡◌, ℕ, zero, suc, ◌+◌, ◌-◌, ◌*◌, ◌/◌, ◌%◌, ◌^◌, ◌<◌, Bool, true, false, cond, ◌&&◌, nat_le, int_le, int_lt, ℤ, pos, negsuc, ◌+ℤ◌, FitsSigned, List, length, slice_index, sym, ap, ◌∙◌, subst, arith}
use Rattle.std.specs.Int.{w8, w16, w32, w64, int_wrap, int_min, int_max}
use Rattle.std.proofs.lemmas.Bool.Decides.{nat_tests}
use Rattle.std.proofs.lemmas.Int.{ints, clamps, int_wrap_fits, int_wrap-add_left}
use Rattle.std.proofs.lemmas.List.Elements.{All-get_or}
use Rattle.transpose_order.specs.Mask.{count_below, rows_of}
use Rattle.transpose_order.specs.MaskWords.{rows_of-same}
use Rattle.transpose_order.proofs.MaskLemmas.{count_below-zero, count_below-suc}
use Rattle.transpose_order.specs.Place.{IsLaneWidth, lane_of, step_of}
use Rattle.transpose_order.proofs.WidthLemmas.{at_widths}
use Rattle.transpose_order.proofs.PlaceLemmas.{row_at-lane_of}
use Rattle.bit_interleave.specs.Arithmetic.{integer_width}
use Rattle.bit_interleave.specs.Packing.{packed_value}
use Rattle.bit_interleave.specs.Range.{value_at}
use Rattle.bit_interleave.proofs.WrapLemmas.{int_wrap_pos, int_wrap_negsuc}
use Rattle.frame_delta.specs.Frame.{FrameForm, frame_value}
use Rattle.frame_delta.specs.Delta.{DeltaForm, IsDeltaForm, sum_to, delta_of, delta_at, delta_value}
use Rattle.native_lanes.specs.Folds.{fold_to}
use Rattle.native_lanes.specs.Between.{between}
use Rattle.native_lanes.specs.declared.pair_test.PairTest.{PairTest}
use Rattle.native_lanes.specs.declared.pair_test.PairTest.TheVariants.{Equal, Less}
use Rattle.native_lanes.specs.Pairs.{number_passes, value_passes}
use Rattle.native_lanes.specs.Walks.{Walk, number_before, number_of_row}
use Rattle.native_lanes.proofs.FoldLemmas.{fold_to-zero, fold_to-suc}
use Rattle.native_lanes.proofs.WalkLemmas.{number_before-zero, one_step, number_at-is}

-- ---- a sum of raised numbers
raised_more : (b : Bool) (half x n count : ℕ) (z v : ℤ) → pos x ≡ z +ℤ pos (half * count) → pos n ≡ v +ℤ pos half → pos (x + cond b n 0) ≡ (z +ℤ cond b v (pos 0)) +ℤ pos (half * (count + cond b 1 0))
raised_more true half x n count z v e d =
    let more : half * (count + 1) ≡ half * count + half = grind arith in
    omega (arith, ints, e, d, more)
raised_more false half x n count z v e d =
    let same : half * (count + 0) ≡ half * count = grind arith in
    omega (arith, ints, e, same)

pub raised_numbers : (half : ℕ) (b : ℕ → Bool) (number : ℕ → ℕ) (v : ℕ → ℤ) (k : ℕ) → ((n : ℕ) → n < k → pos (number n) ≡ v n +ℤ pos half) → pos (fold_to ◌+◌ 0 k (λ n. cond (b n) (number n) 0)) ≡ fold_to ◌+ℤ◌ (pos 0) k (λ n. cond (b n) (v n) (pos 0)) +ℤ pos (half * count_below b k)
raised_numbers half b number v zero raised =
    let none : half * count_below b 0 ≡ 0 = ap (λ n. half * n) (count_below-zero b) ∙ grind arith in
    ap pos (fold_to-zero ◌+◌ 0 (λ n. cond (b n) (number n) 0))
    ∙ sym (ap (λ z. z +ℤ pos (half * count_below b 0)) (fold_to-zero ◌+ℤ◌ (pos 0) (λ n. cond (b n) (v n) (pos 0))) ∙ ap (λ n. pos 0 +ℤ pos n) none ∙ omega (arith, ints))
raised_numbers half b number v (suc k) raised =
    ap pos (fold_to-suc ◌+◌ 0 k (λ n. cond (b n) (number n) 0))
    ∙ raised_more (b k) half (fold_to ◌+◌ 0 k (λ n. cond (b n) (number n) 0)) (number k) (count_below b k) (fold_to ◌+ℤ◌ (pos 0) k (λ n. cond (b n) (v n) (pos 0))) (v k) (raised_numbers half b number v k (λ n h. raised n (omega arith))) (raised k (omega arith))
    ∙ ap (λ z. z +ℤ pos (half * (count_below b k + cond (b k) 1 0))) (sym (fold_to-suc ◌+ℤ◌ (pos 0) k (λ n. cond (b n) (v n) (pos 0))))
    ∙ ap (λ n. fold_to ◌+ℤ◌ (pos 0) (suc k) (λ n. cond (b n) (v n) (pos 0)) +ℤ pos (half * n)) (sym (count_below-suc b k))

-- ---- what wraps
-- a number that is a value raised by half of the lane's numbers, or by that and all of them once more, is modulo all of them the
-- wrapped value raised by half
pub wraps_raised : (t : ℕ) → IsLaneWidth t → (z : ℤ) (m j : ℕ) → pos m ≡ z +ℤ pos (2 ^ (t - 1) + 2 ^ t * j) → pos (m % 2 ^ t) ≡ int_wrap (integer_width t) z +ℤ pos (2 ^ (t - 1))
wraps_raised =
    at_widths (λ t. (z : ℤ) (m j : ℕ) → pos m ≡ z +ℤ pos (2 ^ (t - 1) + 2 ^ t * j) → pos (m % 2 ^ t) ≡ int_wrap (integer_width t) z +ℤ pos (2 ^ (t - 1)))
    wraps_8 wraps_16 wraps_32 wraps_64
  where
    wraps_8 : (z : ℤ) (m j : ℕ) → pos m ≡ z +ℤ pos (2 ^ 7 + 2 ^ 8 * j) → pos (m % 2 ^ 8) ≡ int_wrap w8 z +ℤ pos (2 ^ 7)
    wraps_8 (pos n) m j e = rw (int_wrap_pos w8 n) (grind (arith, ints))
    wraps_8 (negsuc n) m j e = rw (int_wrap_negsuc w8 n) (grind (arith, ints))

    wraps_16 : (z : ℤ) (m j : ℕ) → pos m ≡ z +ℤ pos (2 ^ 15 + 2 ^ 16 * j) → pos (m % 2 ^ 16) ≡ int_wrap w16 z +ℤ pos (2 ^ 15)
    wraps_16 (pos n) m j e = rw (int_wrap_pos w16 n) (grind (arith, ints))
    wraps_16 (negsuc n) m j e = rw (int_wrap_negsuc w16 n) (grind (arith, ints))

    wraps_32 : (z : ℤ) (m j : ℕ) → pos m ≡ z +ℤ pos (2 ^ 31 + 2 ^ 32 * j) → pos (m % 2 ^ 32) ≡ int_wrap w32 z +ℤ pos (2 ^ 31)
    wraps_32 (pos n) m j e = rw (int_wrap_pos w32 n) (grind (arith, ints))
    wraps_32 (negsuc n) m j e = rw (int_wrap_negsuc w32 n) (grind (arith, ints))

    wraps_64 : (z : ℤ) (m j : ℕ) → pos m ≡ z +ℤ pos (2 ^ 63 + 2 ^ 64 * j) → pos (m % 2 ^ 64) ≡ int_wrap w64 z +ℤ pos (2 ^ 63)
    wraps_64 (pos n) m j e = rw (int_wrap_pos w64 n) (grind (arith, ints))
    wraps_64 (negsuc n) m j e = rw (int_wrap_negsuc w64 n) (grind (arith, ints))

-- ---- a frame and deltas
pub frame_raised : (form : FrameForm) (starts : List ℕ) (added n : ℕ) → IsLaneWidth form.lane_width → pos added ≡ form.reference +ℤ pos (2 ^ (form.lane_width - 1))
    → pos (number_of_row (record { lane_width = form.lane_width; width = form.width; words = form.words.numbers; carried = false; starts = starts; added = added }) n) ≡ frame_value form n +ℤ pos (2 ^ (form.lane_width - 1))
unfolding number_of_row frame_value
frame_raised form starts added n width is =
    let t = form.lane_width in
    let walk : Walk = record { lane_width = t; width = form.width; words = form.words.numbers; carried = false; starts = starts; added = added } in
    let number = packed_value t form.width form.words.numbers (lane_of t n) (step_of t n) in
    let none : 2 ^ t * 0 ≡ 0 = grind arith in
    ap pos (sym (number_at-is walk (lane_of t n) (step_of t n)))
    ∙ wraps_raised t width (form.reference +ℤ pos number) (0 + added + number) 0 (omega (arith, ints, is, none))

-- the bits of a value are the value, or that and all of the lane's numbers
pub bits_raised : (b : Bool) (z : ℤ) (x m : ℕ) → pos x ≡ cond b (z +ℤ pos m) z → (j : ℕ) × (pos x ≡ z +ℤ pos (m * j))
bits_raised true z x m e = (1, let one : m * 1 ≡ m = grind arith in omega (arith, ints, e, one))
bits_raised false z x m e = (0, let none : m * 0 ≡ 0 = grind arith in omega (arith, ints, e, none))

delta_before : (form : DeltaForm) (starts : List ℕ) (added j lane k : ℕ) → IsLaneWidth form.lane_width → pos (slice_index starts lane) ≡ value_at form.bases lane +ℤ pos (2 ^ (form.lane_width - 1))
    → FitsSigned (integer_width form.lane_width) (value_at form.bases lane) → pos added ≡ form.least +ℤ pos (2 ^ form.lane_width * j)
    → pos (number_before (record { lane_width = form.lane_width; width = form.width; words = form.words.numbers; carried = true; starts = starts; added = added }) lane k) ≡ int_wrap (integer_width form.lane_width) (value_at form.bases lane +ℤ sum_to k (delta_of form lane)) +ℤ pos (2 ^ (form.lane_width - 1))
unfolding sum_to
delta_before form starts added j lane zero width start fits more =
    let walk : Walk = record { lane_width = form.lane_width; width = form.width; words = form.words.numbers; carried = true; starts = starts; added = added } in
    let base = value_at form.bases lane in
    ap pos (sym (number_before-zero walk lane)) ∙ start
    ∙ ap (λ z. z +ℤ pos (2 ^ (form.lane_width - 1))) (sym (int_wrap_fits (integer_width form.lane_width) base fits) ∙ ap (int_wrap (integer_width form.lane_width)) (let e : base ≡ base +ℤ pos 0 = omega (arith, ints) in e))
delta_before form starts added j lane (suc k) width start fits more =
    let t = form.lane_width in
    let walk : Walk = record { lane_width = t; width = form.width; words = form.words.numbers; carried = true; starts = starts; added = added } in
    let base = value_at form.bases lane in
    let before = base +ℤ sum_to k (delta_of form lane) in
    let number = packed_value t form.width form.words.numbers lane k in
    let same : before +ℤ (form.least +ℤ pos number) ≡ base +ℤ (sum_to k (delta_of form lane) +ℤ (form.least +ℤ pos number)) = omega (arith, ints) in
    ap pos (sym (one_step walk lane k))
    ∙ wraps_raised t width (int_wrap (integer_width t) before +ℤ (form.least +ℤ pos number)) (number_before walk lane k + added + number) j (omega (arith, ints, delta_before form starts added j lane k width start fits more, more))
    ∙ ap (λ z. z +ℤ pos (2 ^ (t - 1))) (int_wrap-add_left (integer_width t) before (form.least +ℤ pos number) ∙ ap (int_wrap (integer_width t)) same)

pub delta_raised : (form : DeltaForm) (starts : List ℕ) (added j n : ℕ) → IsDeltaForm form → ((lane : ℕ) → lane < 1024 / form.lane_width → pos (slice_index starts lane) ≡ value_at form.bases lane +ℤ pos (2 ^ (form.lane_width - 1)))
    → pos added ≡ form.least +ℤ pos (2 ^ form.lane_width * j) → n < 1024
    → pos (number_of_row (record { lane_width = form.lane_width; width = form.width; words = form.words.numbers; carried = true; starts = starts; added = added }) n) ≡ delta_value form n +ℤ pos (2 ^ (form.lane_width - 1))
unfolding number_of_row delta_value delta_at
delta_raised form starts added j n is start more h =
    let t = form.lane_width in
    let walk : Walk = record { lane_width = t; width = form.width; words = form.words.numbers; carried = true; starts = starts; added = added } in
    let lane = lane_of t n in
    let place = row_at-lane_of t n is.lane_width h in
    let inside : lane < length form.bases = subst (λ (k : ℕ). lane < k) (sym is.base_count) place.0 in
    let next : step_of t n + 1 ≡ suc (step_of t n) = omega arith in
    ap (λ k. pos (number_before walk lane k)) next
    ∙ delta_before form starts added j lane (suc (step_of t n)) is.lane_width (start lane place.0) (All-get_or (λ z. FitsSigned (integer_width t) z) form.bases lane (pos 0) inside is.bases) more

-- ---- a range of values among a lane's numbers
pub range_of_ends : (a b t low high value : ℤ) (first last number half : ℕ) → 0 < half → a ≡ low +ℤ pos half → b ≡ high +ℤ pos half → t ≡ pos (half - 1 + half) → pos first ≡ int_min (int_max a (pos 0)) (pos (half - 1 + half)) → pos last ≡ int_min (int_max b (pos 0)) (pos (half - 1 + half))
    → int_lt t a ≡ false → int_lt b (pos 0) ≡ false → number < 2 * half → pos number ≡ value +ℤ pos half → (nat_le first number && nat_le number last) ≡ between low high value
range_of_ends a b t low high value first last number half some al bh top from upto within after fits is =
    let start : pos first ≡ int_max a (pos 0) = grind (arith, ints, clamps) in
    let stop : pos last ≡ int_min b (pos (half - 1 + half)) = grind (arith, ints, clamps) in
    ap (λ x. x && nat_le number last) (lower a low value first number half al start is) ∙ ap (λ x. int_le low value && x) (upper b high value last number half bh stop fits is)
  where
    lower : (a low value : ℤ) (first number half : ℕ) → a ≡ low +ℤ pos half → pos first ≡ int_max a (pos 0) → pos number ≡ value +ℤ pos half → nat_le first number ≡ int_le low value
    lower a low value first number half al start is = grind (arith, ints, clamps, nat_tests)

    upper : (b high value : ℤ) (last number half : ℕ) → b ≡ high +ℤ pos half → pos last ≡ int_min b (pos (half - 1 + half)) → number < 2 * half → pos number ≡ value +ℤ pos half → nat_le number last ≡ int_le value high
    upper b high value last number half bh stop fits is = grind (arith, ints, clamps, nat_tests)

-- ---- values written to their rows
pub values_of_raised : (value : ℕ → ℤ) (number : ℕ → ℕ) (half : ℕ) (values : List ℤ) → length values ≡ 1024 → ((n : ℕ) → n < 1024 → pos (number n) ≡ value n +ℤ pos half) → ((n : ℕ) → n < 1024 → pos (number n) ≡ value_at values n +ℤ pos half) → values ≡ rows_of value
values_of_raised value number half values long raised written =
    rows_of-same value values (pos 0) long (λ n h. same (value_at values n) (value n) (number n) half (written n h) (raised n h))
  where
    same : (a b : ℤ) (m half : ℕ) → pos m ≡ a +ℤ pos half → pos m ≡ b +ℤ pos half → a ≡ b
    same a b m half e d = omega (arith, ints, e, d)

-- ---- two values compare as their raised numbers do
pub passes_raised : (test : PairTest) (m n half : ℕ) (a b : ℤ) → pos m ≡ a +ℤ pos half → pos n ≡ b +ℤ pos half → number_passes test m n ≡ value_passes test a b
passes_raised Equal m n half a b e d = grind (arith, ints, nat_tests)
passes_raised Less m n half a b e d = grind (arith, ints, nat_tests)
