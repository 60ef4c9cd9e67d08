-- The ranges are the maximal ones of the deleted rows.
use Rattle.std.proofs.Common.{◌∙◌, sym, ap, not}
use Rattle.std.specs.List.{list_all}
use Rattle.catalogue_join.specs.RowRange.{RowRange}
use Rattle.column_file.proofs.RangeLists.{ranges_are}
use Rattle.replica_changes.specs.Loads.{is_one_of}
use Rattle.replica_changes.proofs.naming.deletes_none.Goals as goal

pub returns : goal.returns
returns c =
    c.are_of_others.ensures
    ∙ ap (list_all (λ (range : RowRange). not (is_one_of c.args.first c.args.count range.0.batch))) (sym (ranges_are c.ranges-2.result.now c.args.store.now.replica.state.deleted c.ranges-2.ensures.maximal (c.ranges-2.ensures.rows ∙ c.tombs.ensures)))
