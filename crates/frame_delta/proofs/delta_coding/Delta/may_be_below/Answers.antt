-- The differences of place 1 have a width of at most that of all.
use Rattle.std.proofs.Common.{◌≡◌, ◌+◌, ◌*◌, ◌<◌, ◌≤◌, ℕ, IsTrue, nat_lt, arith}
use Rattle.std.proofs.lemmas.Bool.Decides.{nat_tests}
use Rattle.frame_delta.specs.Extremes.{at_top}
use Rattle.frame_delta.specs.Delta.{number_difference, least_delta, delta_bytes}
use Rattle.frame_delta.proofs.SpanLemmas.{span_of_lanes}
use Rattle.frame_delta.proofs.PlaceSpans.{LaterBefore, later_span_starts, delta_width_of_some, bytes_of_least_delta}
use Rattle.frame_delta.proofs.delta_coding.Delta.may_be_below.Goals as goal

within : (least bytes bound : ℕ) → least ≤ bytes → bytes < bound → IsTrue (nat_lt least bound)
within least bytes bound h k = let less : least < bound = omega (arith, h, k) in grind (arith, nat_tests)

pub returns : goal.returns
returns c numbers values r zero one above less =
    let t = c.args.lane_width in
    let g : ℕ → ℕ = λ n. at_top t (number_difference t numbers n) in
    let low = c.spread-spread.ensures.low_reached in
    let high = c.spread-spread.ensures.high_reached in
    let start = later_span_starts t g c.first_differences-differences.result c.of.result.least c.of.result.greatest c.requires.lane_width (c.first_differences-differences.ensures.lanes numbers zero one) c.of.ensures.least c.of.ensures.greatest in
    let span = span_of_lanes (LaterBefore t 2) g c.of.result.least c.of.result.greatest c.spread-spread.result.least c.spread-spread.result.greatest low.0 high.0 start c.spread-spread.ensures.low c.spread-spread.ensures.high low.1 low.2 high.1 high.2 in
    let wide = delta_width_of_some t 2 r numbers values c.spread-spread.result.least c.spread-spread.result.greatest c.requires.lane_width above span in
    let bytes : c.bytes_at.result ≤ delta_bytes (least_delta t values) = omega (arith, bytes_of_least_delta t values, wide, c.width.ensures.value, c.bytes_at.ensures) in
    within c.bytes_at.result (delta_bytes (least_delta t values)) c.args.bound bytes less
