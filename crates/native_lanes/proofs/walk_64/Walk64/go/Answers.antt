-- One step of the walk.
use Rattle.std.proofs.Common.{◌+◌, ◌%◌, ◌^◌, cond, slice_index, sym, ap, ◌∙◌}
use Rattle.native_lanes.specs.Walks.{Walk, number_before, number_at}
use Rattle.native_lanes.proofs.WalkLemmas.{number_at-is}
use Rattle.native_lanes.proofs.walk_64.Walk64.go.Goals as goal

pub returns : goal.returns
returns c = λ lane h.
    let inside = c.self.inside in
    let walk : Walk = record { lane_width = 64; width = inside.width; words = inside.words.now; carried = inside.carried; starts = inside.starts; added = inside.added } in
    let step = c.args.step in
    c.advance.ensures lane h
    ∙ ap (λ n. (cond inside.carried n 0 + inside.added + slice_index c.numbers_64-packed.result lane) % 2 ^ 64) (c.requires.before lane h ∙ ap (λ (w : Walk). number_before w lane step) (sym c.self.view_is))
    ∙ ap (λ n. (cond inside.carried (number_before walk lane step) 0 + inside.added + n) % 2 ^ 64) (c.numbers_64-packed.ensures lane h)
    ∙ number_at-is walk lane step
    ∙ ap (λ (w : Walk). number_at w lane step) c.self.view_is
