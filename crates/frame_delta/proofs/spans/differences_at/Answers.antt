-- Each lane is a row's number less that of the row before.
use Rattle.std.proofs.Common.{◌≡◌, ◌+◌, ◌-◌, ◌*◌, ◌/◌, ◌%◌, ◌^◌, ◌<◌, pos, ◌-ℤ◌, get_or, sym, ap, ◌∙◌, arith, rules}
use Rattle.std.specs.Int.{int_wrap}
use Rattle.std.proofs.lemmas.Simd.{length-zip2, get_or-zip2}
use Rattle.bit_interleave.specs.Arithmetic.{integer_width}
use Rattle.frame_delta.specs.Extremes.{at_top}
use Rattle.frame_delta.specs.Delta.{number_difference}
use Rattle.frame_delta.proofs.SpanLemmas.{wrapped_bits_difference}
use Rattle.frame_delta.proofs.spans.differences_at.Goals as goal

pub ordered-requires-clause-lanes : goal.ordered-requires-clause-lanes
ordered-requires-clause-lanes c =
    length-zip2 (λ a b. (a + (2 ^ 64 - b)) % 2 ^ 64) c.at.result c.at-2.result (c.at.ensures.long ∙ sym c.at-2.ensures.long) ∙ c.at.ensures.long

pub returns-clause-lanes : goal.returns-clause-lanes
unfolding number_difference
returns-clause-lanes c = λ i h.
    let t = c.args.lane_width in
    let p = c.args.place in
    let xs = c.args.numbers.now in
    let n = 64 * i + p in
    let here : 16 * p + i ≡ 16 * (n % 64) + n / 64 = omega (arith, c.requires.place) in
    let before : 16 * (p - 1) + i ≡ 16 * ((n - 1) % 64) + (n - 1) / 64 = omega (arith, c.requires.place, c.requires.later) in
    let a = c.at.ensures.lanes i h ∙ ap (λ k. get_or xs k 0) here in
    let b = c.at-2.ensures.lanes i h ∙ ap (λ k. get_or xs k 0) before in
    let old : get_or xs (16 * ((n - 1) % 64) + (n - 1) / 64) 0 < 2 ^ 64 = search rules in
    let small : get_or c.at-2.result i 0 < 2 ^ 64 = omega (arith, b, old) in
    c.ordered.ensures.lanes i h
    ∙ ap (λ y. at_top t (int_wrap (integer_width t) (pos y))) (get_or-zip2 (λ a b. (a + (2 ^ 64 - b)) % 2 ^ 64) c.at.result c.at-2.result i 0 0 0 (omega (arith, c.at.ensures.long)) (omega (arith, c.at-2.ensures.long)))
    ∙ ap (at_top t) (wrapped_bits_difference t (get_or c.at.result i 0) (get_or c.at-2.result i 0) c.requires.lane_width small)
    ∙ ap (λ x. at_top t (int_wrap (integer_width t) (pos x -ℤ pos (get_or c.at-2.result i 0)))) a
    ∙ ap (λ x. at_top t (int_wrap (integer_width t) (pos (get_or xs (16 * (n % 64) + n / 64) 0) -ℤ pos x))) b
