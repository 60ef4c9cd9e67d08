-- A number of 64 bits, as many times as there are rows, fits 128 bits.
use Rattle.std.proofs.Common.{rules, ◌≡◌, pos, ◌*ℤ◌, FitsSigned, to_z, of_z, sym, ap, ◌∙◌, subst, arith}
use Rattle.std.specs.Int.{w64, w128}
use Rattle.std.proofs.lemmas.Int.{ints, to_z-of_z}
use Rattle.native_lanes.proofs.TimesLemmas.{times_fits}
use Rattle.native_lanes.proofs.short_frames.times.Goals as goal

product : (c : goal.After-from) → to_z w128 (of_z w128 c.from.result) *ℤ to_z w128 c.args.count ≡ c.args.value *ℤ pos c.args.count
product c =
    let fits : FitsSigned w128 c.from.result = search rules in
    let count : to_z w128 c.args.count ≡ pos c.args.count = omega (arith, ints, c.requires) in
    ap (λ z. z *ℤ to_z w128 c.args.count) (to_z-of_z w128 c.from.result fits ∙ c.from.ensures ∙ to_z-of_z w64 c.args.value c.ranges.value) ∙ ap (λ z. c.args.value *ℤ z) count

pub overflow_mul-result : goal.overflow_mul-result
overflow_mul-result c =
    subst (λ z. FitsSigned w128 z) (sym (product c)) (times_fits c.args.value c.args.count c.requires c.ranges.value)

pub returns : goal.returns
returns c = to_z-of_z w128 _ (overflow_mul-result c) ∙ product c
