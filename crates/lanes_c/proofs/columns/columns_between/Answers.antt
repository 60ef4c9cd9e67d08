-- A store is seen as its schema and its state.
use Rattle.std.proofs.Common.{subst}
use Rattle.store_view.specs.View.{ViewForm}
use Rattle.live_columns.specs.Between.{rows_between}
use Rattle.lanes_c.specs.ColumnCalls.{PutsColumns}
use Rattle.lanes_c.proofs.columns.columns_between.Goals as goal

pub returns : goal.returns
returns c =
    subst (λ (v : ViewForm). PutsColumns c.put_asked.result c.args.names.now c.args.condition.now v.table (λ x. rows_between v.table x v.state c.args.batches.first c.args.batches.count) (record { values = c.args.values.now; valid = c.args.valid.now; nulls = c.args.nulls.now }) (record { values = c.put_asked.new.values; valid = c.put_asked.new.valid; nulls = c.put_asked.new.nulls }))
    c.new-view.ensures c.put_asked.ensures
