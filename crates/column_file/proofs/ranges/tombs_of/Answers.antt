use Rattle.std.proofs.Common.{◌∙◌, get_or, sym, ap}
use Rattle.std.specs.FinSet as set
use Rattle.table_model.specs.Name.{row_name_cmp}
use Rattle.catalogue_join.specs.RowRange.{RowRange, rows_between}
use Rattle.column_file.proofs.ContainerWriting.{no_range}
use Rattle.column_file.proofs.OfferReading.{rows_more, rows_none}
use Rattle.column_file.proofs.ranges.tombs_of.Goals as goal

pub loop-index-init : goal.loop-index-init
loop-index-init c = c.new-tombs.ensures ∙ sym rows_none

pub insert-requires-clause-proper : goal.insert-requires-clause-proper
insert-requires-clause-proper c = (c.requires c.loop-index.index no_range c.loop-index-test.true).proper

pub insert-requires-clause-not_empty : goal.insert-requires-clause-not_empty
insert-requires-clause-not_empty c = (c.requires c.loop-index.index no_range c.loop-index-test.true).not_empty

pub loop-index-preserved : goal.loop-index-preserved
loop-index-preserved c =
    let r : RowRange = get_or c.args.deleted.now c.loop-index.index no_range in
    c.in_ok-insert.ensures.ok ∙ ap (λ (tombs : set.FinSet row_name_cmp). set.union tombs (set.from_list (rows_between r.0 r.1))) c.loop-index.invariant ∙ rows_more c.args.deleted.now c.loop-index.index no_range c.loop-index-test.true
