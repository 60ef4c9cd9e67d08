-- The entries of the map are those of the vectors, which the own origin parts.
use Rattle.std.specs.Prelude.{◌++◌, List}
use Rattle.std.proofs.Common.{sym, ap, subst, ◌∙◌}
use Rattle.std.specs.FinMap as map
use Rattle.replica_store.specs.Parted.{AreParted}
use Rattle.replica_store.specs.Segments.{BatchesForm, Entry}
use Rattle.replica_store.proofs.Maps.{entries-as_map}
use Rattle.replica_store.proofs.batches.Batches.parts.Goals as goal

pub returns-clause-whole : goal.returns-clause-whole
returns-clause-whole c =
    let es : List Entry = c.self.inside.up_to.items in
    let fs : List Entry = c.self.inside.past.items in
    (λ i. c.as_slice.ensures.value i ++ c.as_slice-2.ensures.value i) ∙ sym (entries-as_map (es ++ fs) c.self.invariant.kept.sorted) ∙ ap map.entries (ap (λ (b : BatchesForm). b.segments) c.self.view_is)

pub returns-clause-parted : goal.returns-clause-parted
returns-clause-parted c =
    let es : List Entry = c.self.inside.up_to.items in
    subst (λ (b : BatchesForm). AreParted b.own c.as_slice.result.now c.as_slice-2.result.now) c.self.view_is
    (subst (λ (xs : List Entry). AreParted c.self.inside.own xs c.as_slice-2.result.now) (sym c.as_slice.ensures.value)
    (subst (λ (xs : List Entry). AreParted c.self.inside.own es xs) (sym c.as_slice-2.ensures.value) c.self.invariant.parted))
