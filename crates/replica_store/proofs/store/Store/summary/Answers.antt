-- The names that are held are listable, and those of the batches.
use Rattle.std.proofs.Common.{arith, sym, ap, subst, ◌∙◌, Ok}
use Rattle.replica_store.specs.Segments.{StoreForm}
use Rattle.replica_store.specs.Exchange.{AreListable, summary_of}
use Rattle.replica_store.proofs.RowsIn.{len-rows_in}
use Rattle.replica_store.proofs.Summaries.{AreListable-names, names_of-rows_in}
use Rattle.replica_store.proofs.store.Store.summary.Goals as goal

pub from_parts-requires : goal.from_parts-requires
from_parts-requires c =
    subst AreListable (sym (c.in_ok-names.ensures ∙ c.names.ensures))
    (AreListable-names c.self.inside.schema c.self.inside.batches.segments c.self.invariant.stored (omega (arith, len-rows_in c.self.inside.batches.segments, c.self.invariant.sound.within.limit)))

pub returns : goal.returns
returns c =
    ap Ok (ap (λ (s : StoreForm). summary_of s.replica) (sym c.self.view_is)
    ∙ (λ i. record { schema = sym c.in_ok-schema.ensures i; names = (names_of-rows_in c.self.inside.batches.segments ∙ sym (c.in_ok-names.ensures ∙ c.names.ensures)) i })
    ∙ sym c.from_parts.ensures)
