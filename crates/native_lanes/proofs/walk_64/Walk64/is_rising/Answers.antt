-- The greatest of the first step and what 63 steps add stay below two to the power of 64.
use Rattle.std.proofs.Common.{◌+◌, ◌-◌, ◌*◌, ◌^◌, ◌<◌, ◌≤◌, slice_index, refl, ap, subst, arith}
use Rattle.std.proofs.lemmas.Bool.Decides.{nat_tests}
use Rattle.native_lanes.specs.Walks.{Walk, number_at}
use Rattle.native_lanes.proofs.RisingLemmas.{at_most_greatest, lanes_rise}
use Rattle.native_lanes.proofs.walk_64.Walk64.is_rising.Goals as goal

pub returns-then-self : goal.returns-then-self
returns-then-self c top lane step l s =
    let inside = c.self.inside in
    let walk : Walk = record { lane_width = 64; width = inside.width; words = inside.words.now; carried = inside.carried; starts = inside.starts; added = inside.added } in
    let first = c.requires lane l in
    let same = ap (λ (w : Walk). number_at w lane 0) c.self.view_is in
    let among = at_most_greatest (slice_index c.args.first.now) 16 lane l in
    let within : c.greatest_of_lanes.result ≤ 18446744073709551615 - c.in-Some.most = grind (arith, nat_tests, top) in
    let room : number_at walk lane 0 + 63 * (inside.added + (2 ^ inside.width - 1)) < 2 ^ 64 = omega (arith, first, same, among, within, c.greatest_of_lanes.ensures, c.in-Some.ensures) in
    subst (λ (w : Walk). number_at w lane step ≤ number_at w lane (step + 1)) c.self.view_is
    (lanes_rise walk lane 63 (inside.added + (2 ^ inside.width - 1)) step c.if-self.true refl room s)
