-- The place that was found, or the end.
use Rattle.std.proofs.Common.{ℕ, ◌==◌, sym, ◌∙◌}
use Rattle.query_eval.proofs.SeenLemmas.{position_none, position_some}
use Rattle.query_eval.proofs.answers.field_places.place_among.Goals as goal

pub returns-in-None : goal.returns-in-None
returns-in-None c = position_none {X = ℕ} (λ place. place == c.args.column) c.args.places.now (sym c.find_place.ensures ∙ c.in-None.is)

pub returns-in-Some : goal.returns-in-Some
returns-in-Some c = position_some {X = ℕ} (λ place. place == c.args.column) c.args.places.now c.in-Some.at (sym c.find_place.ensures ∙ c.in-Some.is)
