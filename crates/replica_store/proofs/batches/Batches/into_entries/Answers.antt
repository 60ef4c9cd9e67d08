-- The two parts, one after the other.
use Rattle.std.specs.Prelude.{◌++◌}
use Rattle.std.proofs.Common.{sym, ap, ◌∙◌}
use Rattle.std.specs.FinMap as map
use Rattle.replica_store.specs.Segments.{BatchesForm}
use Rattle.replica_store.proofs.Maps.{entries-as_map}
use Rattle.replica_store.proofs.batches.Batches.into_entries.Goals as goal

pub returns-clause-entries : goal.returns-clause-entries
returns-clause-entries c = c.in_ok-append.ensures.items ∙ sym (entries-as_map (c.self.inside.up_to.items ++ c.self.inside.past.items) c.self.invariant.kept.sorted) ∙ ap (λ (b : BatchesForm). map.entries b.segments) c.self.view_is
