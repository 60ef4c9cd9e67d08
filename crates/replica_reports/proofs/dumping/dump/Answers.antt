-- All columns are chosen, and no condition.
use Rattle.std.proofs.Common.{subst, List, ℕ}
use Rattle.std.specs.FinMap as finite
use Rattle.replica_store.specs.Replica.{Replica, AllFit}
use Rattle.replica_store.specs.Segments.{StoreForm}
use Rattle.live_columns.specs.Choices.{ChoiceForm}
use Rattle.replica_reports.specs.Dumps.{WritesLines}
use Rattle.replica_reports.proofs.DumpChoices.{dump_chosen}
use Rattle.replica_reports.proofs.dumping.dump.Goals as goal

pub returns : goal.returns
returns g c =
    let r : Replica = c.args.file.now.replica in
    let choice : ChoiceForm = record { condition = c.in-Ok.choice.condition; places = c.in-Ok.choice.places.items } in
    let fits : AllFit r.schema (finite.entries r.state.batches) = subst (λ (s : StoreForm). AllFit s.replica.schema (finite.entries s.replica.state.batches)) c.store.ensures.value c.keeps_its_limits.ensures.within.fits in
    let P : List ℕ → Type 0 = λ t. WritesLines c.dump_where.result (g.W.Write.contents c.args.writer.now.0) (g.W.Write.contents c.dump_where.new.writer.0) c.args.writer.now.1 c.dump_where.new.writer.1 t in
    record { text = subst P (dump_chosen c.args.has_names r c.schema.result.now choice c.schema.ensures fits c.in-Ok.ensures.read) c.dump_where.ensures.text }
