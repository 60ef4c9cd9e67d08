-- The tally has the values that the aggregate goes over.
use Rattle.std.proofs.Common.{subst, sym, ap, ◌∙◌}
use Rattle.query_eval.specs.Aggregate.{aggregate_value}
use Rattle.query_eval.specs.Grouping.{IsHeld}
use Rattle.query_eval.specs.declared.tallies.aggregate.Aggregate.{Aggregate}
use Rattle.query_eval.proofs.OrderLemmas.{rows_value, folded_value}
use Rattle.query_eval.proofs.tallies.grouped_table.value_of.Goals as goal

pub returns-in_ok-field-in-Rows : goal.returns-in_ok-field-in-Rows
returns-in_ok-field-in-Rows c = λ table rows few h.
    rows_value table rows c.args.tally.now _ c.in_ok-field-in-Rows.ensures few (subst (λ (a : Aggregate). IsHeld rows a c.args.tally.now) c.in-Rows.is h)
    ∙ ap (λ a. aggregate_value a rows) (sym c.in-Rows.is)

pub returns-in_ok-field-in-Folded : goal.returns-in_ok-field-in-Folded
returns-in_ok-field-in-Folded c = λ table rows few h.
    folded_value c.in-Folded.fold _ _ table rows c.args.tally.now _ c.in_ok-field-in-Folded.ensures few (subst (λ (a : Aggregate). IsHeld rows a c.args.tally.now) c.in-Folded.is h)
    ∙ ap (λ a. aggregate_value a rows) (sym c.in-Folded.is)
