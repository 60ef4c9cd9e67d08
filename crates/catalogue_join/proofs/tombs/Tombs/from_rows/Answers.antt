-- In order they are the same rows.
use Rattle.std.proofs.Common.{IsTrue}
use Rattle.std.proofs.lemmas.List.Sorted.{All-permutation}
use Rattle.table_model.specs.Name.{is_proper_name}
use Rattle.table_model.specs.declared.names.RowName.{RowName}
use Rattle.catalogue_join.proofs.RowLists.{in_any_order}
use Rattle.catalogue_join.proofs.tombs.Tombs.from_rows.Goals as goal

pub of_each-requires-2 : goal.of_each-requires-2
of_each-requires-2 c = rw (c.deref.ensures.value) (All-permutation (λ (row : RowName). IsTrue (is_proper_name row.batch)) _ _ c.sort_unstable.ensures.permutation (rw c.in_ok-sorted.ensures.items c.requires))

pub returns : goal.returns
returns c = rw (← c.in_ok-sorted.ensures.items, in_any_order _ _ c.sort_unstable.ensures.permutation, ← c.deref.ensures.value) c.of_each-2.ensures
