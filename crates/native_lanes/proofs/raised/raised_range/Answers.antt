-- The ends are brought among the lane's numbers, of which none is past them.
use Rattle.std.proofs.Common.{rules, ◌≡◌, ◌+◌, ◌-◌, pos, ◌+ℤ◌, FitsSigned, to_z, of_z, ap, ◌∙◌}
use Rattle.std.specs.Int.{w64, w128}
use Rattle.std.proofs.lemmas.Int.{to_z-of_z}
use Rattle.native_lanes.proofs.RaisedLemmas.{range_of_ends}
use Rattle.native_lanes.proofs.raised.raised_range.Goals as goal

pub returns-clause-range : goal.returns-clause-range
returns-clause-range c = λ number value fits is.
    let half = c.args.half in
    let ff : FitsSigned w128 c.above_least-first.result = search rules in
    let lf : FitsSigned w128 c.above_least-last.result = search rules in
    let tf : FitsSigned w128 c.from.result = search rules in
    let first : to_z w128 (of_z w128 c.above_least-first.result) ≡ c.args.low +ℤ pos half = to_z-of_z w128 c.above_least-first.result ff ∙ c.above_least-first.ensures ∙ ap (λ z. z +ℤ pos half) (to_z-of_z w64 c.args.low c.ranges.low) in
    let last : to_z w128 (of_z w128 c.above_least-last.result) ≡ c.args.high +ℤ pos half = to_z-of_z w128 c.above_least-last.result lf ∙ c.above_least-last.ensures ∙ ap (λ z. z +ℤ pos half) (to_z-of_z w64 c.args.high c.ranges.high) in
    let top : to_z w128 (of_z w128 c.from.result) ≡ pos (half - 1 + half) = to_z-of_z w128 c.from.result tf ∙ c.from.ensures in
    range_of_ends (to_z w128 (of_z w128 c.above_least-first.result)) (to_z w128 (of_z w128 c.above_least-last.result)) (to_z w128 (of_z w128 c.from.result)) c.args.low c.args.high value c.nearest.result c.nearest-2.result number half c.requires.some first last top c.nearest.ensures c.nearest-2.ensures c.if-from-first.false c.if-last-lt0.false fits is
