-- A range has all places of the rows, or one is lacked.
use Rattle.std.proofs.Common.{◌∙◌, ◌<◌, ap, rules}
use Rattle.std.specs.FinSet as set
use Rattle.std.specs.List.{list_all}
use Rattle.table_model.specs.Table.{row_limit}
use Rattle.catalogue_join.specs.RowRange.{rows_between}
use Rattle.catalogue_join.proofs.BatchRows.{holds_is}
use Rattle.catalogue_join.proofs.tombs.Tombs.holds_rows.Goals as goal

pub returns : goal.returns
returns c =
    let origin : c.args.first.batch.origin.0 < 4294967296 = search rules in
    let number : c.args.first.batch.number.0 < 4294967296 = search rules in
    let last : c.args.last < row_limit = search rules in
    holds_is c.self.inside.ranges c.args.first c.args.last c.has_range.result c.self.invariant c.requires last origin number c.has_range.ensures.has c.has_range.ensures.lacks
    ∙ ap (λ s. list_all (set.contains s) (rows_between c.args.first c.args.last)) c.self.view_is
