-- The key has this place, and each other key the place that it had.
use Rattle.std.proofs.Common.{Some, cond, ap, sym, ◌∙◌}
use Rattle.std.specs.Map.{lookup}
use Rattle.table_model.specs.State.{same_cells}
use Rattle.table_model.proofs.SameRows.{same_cells-pointwise}
use Rattle.query_eval.specs.Entries.{Indexed, place_in}
use Rattle.query_eval.proofs.IndexLemmas.{found_is}
use Rattle.query_eval.proofs.grouping.index.Index.insert.Goals as goal

pub returns-clause-places : goal.returns-clause-places
returns-clause-places c = λ other.
    sym (found_is c.insert.new.self.entries other) ∙ c.in_ok-insert.ensures.updates.0 other
    ∙ (λ i. cond (same_cells-pointwise c.args.key other i) (Some c.args.place) (lookup (λ k. same_cells-pointwise other k i) c.self.inside.places.entries))
    ∙ ap (λ (index : Indexed). cond (same_cells c.args.key other) (Some c.args.place) (place_in index.entries other)) c.self.view_is
