-- The names that are held are those of the batches.
use Rattle.std.proofs.Common.{sym, ap, ◌∙◌}
use Rattle.std.specs.FinSet as set
use Rattle.table_model.specs.Name.{name_cmp}
use Rattle.replica_store.specs.Replica.{holds}
use Rattle.replica_store.specs.Segments.{StoreForm}
use Rattle.replica_store.proofs.Summaries.{names_of-rows_in}
use Rattle.replica_store.proofs.store.Store.holds.Goals as goal

pub returns : goal.returns
returns c =
    c.holds.ensures
    ∙ ap (λ (s : set.FinSet name_cmp). set.contains s c.args.name) (c.names.ensures ∙ sym (names_of-rows_in c.self.inside.batches.segments))
    ∙ ap (λ (s : StoreForm). holds s.replica c.args.name) c.self.view_is
