-- The rows from the first to the last are those of the batch.
use Rattle.std.proofs.Common.{◌∙◌, ◌≡◌, ◌+◌, ◌-◌, ap, arith}
use Rattle.std.specs.FinSet as set
use Rattle.std.specs.List.{list_all}
use Rattle.catalogue_join.specs.RowRange.{row_names}
use Rattle.catalogue_join.proofs.tombs.Tombs.holds_batch.Goals as goal

pub returns : goal.returns
returns c =
    let count : c.args.rows - 1 + 1 - 0 ≡ c.args.rows = let some = c.requires.some in omega arith in
    c.holds_rows.ensures ∙ ap (λ n. list_all (set.contains c.args.self.now) (row_names c.args.batch 0 n)) count
