-- What the union has under a name is what is here, or else what is among the others.
use Rattle.std.specs.Prelude.{not, Option}
use Rattle.std.proofs.Common.{sym, ap, ◌∙◌}
use Rattle.std.specs.FinMap as map
use Rattle.table_model.specs.State.{Batch}
use Rattle.table_model.proofs.Joins.{or_else, get-union}
use Rattle.replica_store.specs.Replica.{differs}
use Rattle.replica_store.specs.Segments.{rows_in}
use Rattle.replica_store.proofs.batches.Batches.differs_in_either.Goals as goal

pub returns-in-None : goal.returns-in-None
returns-in-None c =
    let ours = rows_in c.args.self.now.segments in
    let more = rows_in c.args.more.now.segments in
    c.differs.ensures
    ∙ ap (λ (o : Option Batch). differs o c.args.other.now.rows) (ap (λ (o : Option Batch). or_else o (map.get more c.args.name)) c.in-None.ensures.rows ∙ sym (get-union ours more c.args.name))

pub returns-in-Some : goal.returns-in-Some
returns-in-Some c =
    let ours = rows_in c.args.self.now.segments in
    let more = rows_in c.args.more.now.segments in
    ap not c.same_rows.ensures
    ∙ ap (λ (o : Option Batch). differs o c.args.other.now.rows) (ap (λ (o : Option Batch). or_else o (map.get more c.args.name)) c.in-Some.ensures.rows ∙ sym (get-union ours more c.args.name))
