-- The two parts are all batches.
use Rattle.std.proofs.Common.{◌∙◌, ◌&&◌, Bool, sym, ap, not}
use Rattle.std.specs.List.{list_all}
use Rattle.replica_store.specs.Segments.{Entry}
use Rattle.replica_changes.specs.Loads.{is_one_of}
use Rattle.replica_changes.proofs.DrawnNames.{both_others}
use Rattle.replica_changes.proofs.naming.holds_none.Goals as goal

pub returns-then-are_others : goal.returns-then-are_others
returns-then-are_others c =
    c.are_others-then-are_others.ensures
    ∙ ap (λ (b : Bool). b && list_all (λ (e : Entry). not (is_one_of c.args.first c.args.count e.0)) c.parts.result.1.now) (sym (sym c.are_others.ensures ∙ c.if-are_others.true))
    ∙ sym (both_others c.args.first c.args.count c.args.store.now.replica.state.batches c.args.store.now.segments c.parts.result.0.now c.parts.result.1.now c.parts.ensures.rows c.parts.ensures.value)

pub returns-else-are_others : goal.returns-else-are_others
returns-else-are_others c =
    c.if-are_others.false
    ∙ ap (λ (b : Bool). b && list_all (λ (e : Entry). not (is_one_of c.args.first c.args.count e.0)) c.parts.result.1.now) (sym (sym c.are_others.ensures ∙ c.if-are_others.false))
    ∙ sym (both_others c.args.first c.args.count c.args.store.now.replica.state.batches c.args.store.now.segments c.parts.result.0.now c.parts.result.1.now c.parts.ensures.rows c.parts.ensures.value)
