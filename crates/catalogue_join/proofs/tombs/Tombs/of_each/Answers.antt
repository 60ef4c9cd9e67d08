-- One row more.
use Rattle.std.proofs.Common.{◌∙◌, ap, get_or}
use Rattle.std.specs.FinSet as set
use Rattle.table_model.specs.Name.{row_name_cmp}
use Rattle.table_model.specs.declared.names.RowName.{RowName}
use Rattle.catalogue_join.specs.RowRange.{rows_between}
use Rattle.catalogue_join.proofs.RowLists.{row_more}
use Rattle.catalogue_join.proofs.tombs.Tombs.of_each.Goals as goal

abbrev no_row : RowName
no_row = record { batch = record { origin = record { 0 = 0 }; number = record { 0 = 0 } }; ordinal = 0 }

pub loop-index-preserved : goal.loop-index-preserved
loop-index-preserved c =
    let q : RowName = get_or c.args.rows.now c.loop-index.index no_row in
    c.in_ok-insert.ensures.ok ∙ ap (λ (tombs : set.FinSet row_name_cmp). set.union tombs (set.from_list (rows_between q q.ordinal))) c.loop-index.invariant ∙ row_more c.args.rows.now c.loop-index.index no_row c.loop-index-test.true
