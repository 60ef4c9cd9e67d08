-- What the lanes start with is an offset further, or where no number is carried, what each step adds.
use Rattle.std.proofs.Common.{◌+◌, ◌%◌, ◌^◌, sym, ap, ◌∙◌}
use Rattle.native_lanes.specs.Walks.{Walk, number_at}
use Rattle.native_lanes.proofs.WalkLemmas.{shifted_walk}
use Rattle.native_lanes.proofs.walk_64.Walk64.shifted.Goals as goal

pub returns-clause-numbers : goal.returns-clause-numbers
returns-clause-numbers c = λ lane step h l.
    let inside = c.self.inside in
    ap (λ (w : Walk). number_at w lane step) c.new.ensures
    ∙ shifted_walk inside.width inside.words.now inside.starts c.all_shifted-starts.result inside.carried inside.added c.added_further-added.result c.args.offset lane step (c.all_shifted-starts.ensures lane h) c.added_further-added.ensures
    ∙ ap (λ (w : Walk). (number_at w lane step + c.args.offset) % 2 ^ 64) c.self.view_is

pub returns-clause-width : goal.returns-clause-width
returns-clause-width c = ap (λ (w : Walk). w.lane_width) (sym c.self.view_is)
