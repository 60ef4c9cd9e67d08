-- All batches have all live rows.
use Rattle.std.proofs.Common.{subst}
use Rattle.live_columns.proofs.BetweenSteps.{between-whole}
use Rattle.lanes_c.specs.ColumnCalls.{PutsColumns, RowsWhere}
use Rattle.lanes_c.proofs.columns.columns_of_all.Goals as goal

pub returns : goal.returns
returns c =
    let r = c.args.store.now.replica in
    subst (λ (rows : RowsWhere). PutsColumns c.columns_between.result c.args.names.now c.args.condition.now r.schema rows (record { values = c.args.values.now; valid = c.args.valid.now; nulls = c.args.nulls.now }) (record { values = c.columns_between.new.values; valid = c.columns_between.new.valid; nulls = c.columns_between.new.nulls }))
    (λ i x. between-whole r.schema x r.state c.batches.result c.batches.ensures.value i) c.columns_between.ensures
