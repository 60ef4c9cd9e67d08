-- Each lane is a row's number less that of the row before.
use Rattle.std.proofs.Common.{◌≡◌, ◌+◌, ◌-◌, ◌*◌, ◌/◌, ◌%◌, ◌^◌, ◌<◌, pos, ◌-ℤ◌, get_or, length, sym, ap, ◌∙◌, arith, rules}
use Rattle.std.specs.Int.{int_wrap}
use Rattle.std.proofs.lemmas.Simd.{length-zip2, get_or-zip2}
use Rattle.bit_interleave.specs.Arithmetic.{integer_width}
use Rattle.frame_delta.specs.Extremes.{at_top}
use Rattle.frame_delta.specs.Delta.{number_difference}
use Rattle.frame_delta.proofs.SpanLemmas.{wrapped_bits_difference}
use Rattle.frame_delta.proofs.spans.first_differences.Goals as goal

pub ordered-requires-clause-lanes : goal.ordered-requires-clause-lanes
ordered-requires-clause-lanes c =
    let second_long : length c.args.second ≡ 16 = search rules in
    let first_long : length c.args.first ≡ 16 = search rules in
    length-zip2 (λ a b. (a + (2 ^ 64 - b)) % 2 ^ 64) c.args.second c.args.first (second_long ∙ sym first_long) ∙ second_long

pub returns-clause-lanes : goal.returns-clause-lanes
unfolding number_difference
returns-clause-lanes c = λ xs zero one i h.
    let t = c.args.lane_width in
    let n = 64 * i + 1 in
    let here : 16 * 1 + i ≡ 16 * (n % 64) + n / 64 = omega (arith, h) in
    let before : 16 * 0 + i ≡ 16 * ((n - 1) % 64) + (n - 1) / 64 = omega (arith, h) in
    let a : get_or c.args.second i 0 ≡ get_or xs (16 * (n % 64) + n / 64) 0 = sym (one i h) ∙ ap (λ k. get_or xs k 0) here in
    let b : get_or c.args.first i 0 ≡ get_or xs (16 * ((n - 1) % 64) + (n - 1) / 64) 0 = sym (zero i h) ∙ ap (λ k. get_or xs k 0) before in
    let small : get_or c.args.first i 0 < 2 ^ 64 = search rules in
    let second_long : length c.args.second ≡ 16 = search rules in
    let first_long : length c.args.first ≡ 16 = search rules in
    c.ordered.ensures.lanes i h
    ∙ ap (λ y. at_top t (int_wrap (integer_width t) (pos y))) (get_or-zip2 (λ a b. (a + (2 ^ 64 - b)) % 2 ^ 64) c.args.second c.args.first i 0 0 0 (omega (arith, second_long, h)) (omega (arith, first_long, h)))
    ∙ ap (at_top t) (wrapped_bits_difference t (get_or c.args.second i 0) (get_or c.args.first i 0) c.requires small)
    ∙ ap (λ x. at_top t (int_wrap (integer_width t) (pos x -ℤ pos (get_or c.args.first i 0)))) a
    ∙ ap (λ x. at_top t (int_wrap (integer_width t) (pos (get_or xs (16 * (n % 64) + n / 64) 0) -ℤ pos x))) b
