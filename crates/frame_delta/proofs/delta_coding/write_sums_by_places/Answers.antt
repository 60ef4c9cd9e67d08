-- A place's sums are those of the rows before, or the bases, and what the place adds.
use Rattle.std.proofs.Common.{◌≡◌, ◌≢◌, ℕ, ◌+◌, ◌-◌, ◌*◌, ◌/◌, ◌%◌, ◌^◌, ◌<◌, pos, ◌+ℤ◌, of_z, to_z, length, get_or, sym, ap, ◌∙◌, subst, arith, rules, FitsSigned}
use Rattle.std.specs.Int.{w64, int_wrap, cast_unsigned}
use Rattle.transpose_order.specs.Place.{lane_of}
use Rattle.bit_interleave.specs.Arithmetic.{integer_width}
use Rattle.bit_interleave.specs.Places.{by_place}
use Rattle.bit_interleave.specs.Range.{value_at}
use Rattle.bit_interleave.proofs.WrapLemmas.{int_wrap-bits, fits_wide}
use Rattle.frame_delta.proofs.FrameLemmas.{column_fits}
use Rattle.frame_delta.proofs.SpanLemmas.{low_bits_wrap, low_below}
use Rattle.frame_delta.proofs.PlaceSpans.{number_at_place, step_of_place, some_place, before_or_here, lane_of_place, lanes_of_place}
use Rattle.frame_delta.proofs.PlaceNumbers.{low_sum_wraps, wrapped_twice}
use Rattle.frame_delta.proofs.delta_coding.write_sums_by_places.Goals as goal

pub loop-row-preserved : goal.loop-row-preserved
loop-row-preserved c =
    let t = c.args.lane_width in
    let w = integer_width t in
    let row = c.loop-row.row in
    let within : row < 64 = c.loop-row-test.true in
    let width = c.requires.lane_width in
    let xs = c.loop-row.numbers in
    let ys = c.put_place.new.numbers in
    let zs = c.args.numbers.now in
    let bases = c.args.bases.now.values in
    let r = to_z w64 (of_z w64 c.args.least) in
    let fits : FitsSigned w64 r = search rules in
    let inv = c.loop-row.invariant in
    let keep : (n : ℕ) → n < 1024 → n % 64 ≢ row → by_place ys n ≡ by_place xs n =
    λ n h other. c.put_place.ensures.others (16 * (n % 64) + n / 64) (λ e. other (omega (arith, e, h))) in
    let new : (n : ℕ) → n < 1024 → n % 64 ≡ row → by_place ys n ≡ get_or c.added-sums.result (n / 64) 0 % 2 ^ t =
    λ n h here.
    let i = n / 64 in
    let small : i < 16 = omega (arith, h) in
    let same : 64 * i + row ≡ n = omega (arith, here) in
    sym (ap (by_place ys) same) ∙ sym (number_at_place ys row i within small) ∙ c.put_place.ensures.written i small ∙ c.low_bits.ensures.lanes i small in
    let sum : (n : ℕ) → n < 1024 → n % 64 ≡ row → get_or c.added-sums.result (n / 64) 0 ≡ ((get_or c.sums_before-before.result (n / 64) 0 + cast_unsigned w64 r) % 2 ^ 64 + by_place zs n) % 2 ^ 64 =
    λ n h here.
    let i = n / 64 in
    let small : i < 16 = omega (arith, h) in
    let same : 64 * i + row ≡ n = omega (arith, here) in
    let number = c.at.ensures.lanes i small ∙ inv.left (16 * row + i) (omega arith) ∙ number_at_place zs row i within small ∙ ap (by_place zs) same in
    c.added-sums.ensures.lanes i small
    ∙ ap (λ x. (x + get_or c.at.result i 0) % 2 ^ 64) (c.raised.ensures.lanes i small ∙ ap (λ x. (get_or c.sums_before-before.result i 0 + x) % 2 ^ 64) c.cast_unsigned-by.ensures)
    ∙ ap (λ x. ((get_or c.sums_before-before.result i 0 + cast_unsigned w64 r) % 2 ^ 64 + x) % 2 ^ 64) number in
    let start : (n : ℕ) → n < 1024 → n % 64 ≡ row → n % t ≡ 0 → int_wrap w (pos (by_place ys n)) ≡ int_wrap w (value_at bases (lane_of t n) +ℤ (r +ℤ pos (by_place zs n))) =
    λ n h here e.
    let i = n / 64 in
    let small : i < 16 = omega (arith, h) in
    let same : 64 * i + row ≡ n = omega (arith, here) in
    let first : row % t ≡ 0 = sym (step_of_place t row n width here) ∙ e in
    let base = value_at bases (lane_of t n) in
    let there : lane_of t n < length bases = omega (arith, ap (lane_of t) same, lane_of_place t row i width within small, lanes_of_place t row width within, c.requires.base_count, small) in
    let fit : FitsSigned w64 base = fits_wide t base width (column_fits t bases (lane_of t n) there c.requires.bases) in
    let before = ap (λ x. int_wrap w (pos x)) (c.sums_before-before.ensures.first first i small ∙ ap (λ m. cast_unsigned w64 (value_at bases (lane_of t m))) same) ∙ int_wrap-bits t base width fit in
    ap (λ x. int_wrap w (pos x)) (new n h here)
    ∙ low_sum_wraps t (get_or c.added-sums.result i 0) (get_or c.sums_before-before.result i 0) (by_place zs n) base r width fits before (sum n h here) in
    let on : (n : ℕ) → n < 1024 → n % 64 ≡ row → n % t ≢ 0 → int_wrap w (pos (by_place ys n)) ≡ int_wrap w (int_wrap w (pos (by_place ys (n - 1))) +ℤ (r +ℤ pos (by_place zs n))) =
    λ n h here some.
    let i = n / 64 in
    let small : i < 16 = omega (arith, h) in
    let later : row % t ≢ 0 = λ e. some (step_of_place t row n width here ∙ e) in
    let positive = some_place t n width some in
    let back : 64 * i + row - 1 ≡ n - 1 = omega (arith, here) in
    let other : (n - 1) % 64 ≢ row = λ e. absurd (omega (arith, e, here, positive)) in
    let before = ap (λ ss. int_wrap w (pos (get_or ss i 0))) (c.sums_before-before.ensures.later later) ∙ inv.sums later i small ∙ ap (λ m. int_wrap w (pos (by_place xs m))) back ∙ ap (λ x. int_wrap w (pos x)) (sym (keep (n - 1) (omega (arith, h)) other)) in
    ap (λ x. int_wrap w (pos x)) (new n h here)
    ∙ low_sum_wraps t (get_or c.added-sums.result i 0) (get_or c.sums_before-before.result i 0) (by_place zs n) (int_wrap w (pos (by_place ys (n - 1)))) r width fits (wrapped_twice t (get_or c.sums_before-before.result i 0) (by_place ys (n - 1)) before) (sum n h here) in
    record {
      count = c.added-sums.ensures.long;
      sums = λ later i small.
          let n = 64 * i + row in
          let here : n % 64 ≡ row = omega (arith, within) in
          let lane : n / 64 ≡ i = omega (arith, within) in
          let same : 64 * i + (row + 1) - 1 ≡ n = omega arith in
          sym (ap (λ m. int_wrap w (pos (by_place ys m))) same ∙ ap (λ x. int_wrap w (pos x)) (new n (omega (arith, within, small)) here ∙ ap (λ k. get_or c.added-sums.result k 0 % 2 ^ t) lane) ∙ low_bits_wrap t (get_or c.added-sums.result i 0) width);
      left = λ q after. c.put_place.ensures.others q (λ e. absurd (omega (arith, e, after))) ∙ inv.left q (omega (arith, after));
      first = λ n h near e.
          before_or_here _ n row near
          (λ less. ap (λ x. int_wrap w (pos x)) (keep n h (λ same. absurd (omega (arith, same, less)))) ∙ inv.first n h less e)
          (λ here. start n h here e);
      later = λ n h near some.
          let positive = some_place t n width some in
          before_or_here _ n row near
          (λ less.
          let other : (n - 1) % 64 ≢ row = λ e. absurd (omega (arith, e, less, positive)) in
          ap (λ x. int_wrap w (pos x)) (keep n h (λ same. absurd (omega (arith, same, less)))) ∙ inv.later n h less some ∙ ap (λ x. int_wrap w (int_wrap w (pos x) +ℤ (r +ℤ pos (by_place zs n)))) (sym (keep (n - 1) (omega (arith, h)) other)))
          (λ here. on n h here some);
      fit = λ n h near.
          before_or_here (by_place ys n < 2 ^ t) n row near
          (λ less. subst (λ (x : ℕ). x < 2 ^ t) (sym (keep n h (λ same. absurd (omega (arith, same, less))))) (inv.fit n h less))
          (λ here. subst (λ (x : ℕ). x < 2 ^ t) (sym (new n h here)) (low_below t (get_or c.added-sums.result (n / 64) 0) width));
    }
