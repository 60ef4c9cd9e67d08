-- A name is in a union if it is in one of the sets.
use Rattle.std.specs.Prelude.{◌||◌, Bool}
use Rattle.std.proofs.Common.{sym, ap, ◌∙◌}
use Rattle.std.specs.FinSet as set
use Rattle.table_model.proofs.NameOrder.{names_total}
use Rattle.replica_store.proofs.batches.holds_either.Goals as goal

pub returns-then-holds : goal.returns-then-holds
returns-then-holds c =
    let there = sym c.holds.ensures ∙ c.if-holds.true in
    c.if-holds.true ∙ sym (set.contains-union names_total c.args.names.now c.args.more.now c.args.name ∙ ap (λ (b : Bool). b || set.contains c.args.more.now c.args.name) there)

pub returns-else-holds : goal.returns-else-holds
returns-else-holds c =
    let there = sym c.holds.ensures ∙ c.if-holds.false in
    c.holds-else-holds.ensures ∙ sym (set.contains-union names_total c.args.names.now c.args.more.now c.args.name ∙ ap (λ (b : Bool). b || set.contains c.args.more.now c.args.name) there)
