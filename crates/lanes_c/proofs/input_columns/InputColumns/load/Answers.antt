-- Each step adds a batch; a refused one has the first fault of all rows.
use Rattle.std.proofs.Common.{◌<◌, ◌≤◌, ◌*◌, ap, arith}
use Rattle.std.proofs.lemmas.Result.{err_from_is_err_and}
use Rattle.table_model.specs.Table.{row_limit}
use Rattle.replica_store.specs.Replica.{batch_limit}
use Rattle.lanes_c.specs.InputColumns.{InputForm}
use Rattle.lanes_c.proofs.InputLoads.{one_more, refused_at}
use Rattle.lanes_c.proofs.input_columns.InputColumns.load.Goals as goal

pub returns-in_err-add_batch-clause-refused : goal.returns-in_err-add_batch-clause-refused
returns-in_err-add_batch-clause-refused c =
    let same = ap (λ (x : InputForm). x.rows) c.self.view_is in
    let few : c.args.self.now.rows ≤ batch_limit * row_limit = omega (arith, c.self.invariant.rows, same) in
    let there : c.loop-index.index * row_limit < c.args.self.now.rows = omega (arith, same) in
    let p = err_from_is_err_and c.from_residual-in_err-add_batch.result c.from_residual-in_err-add_batch.ensures.1 in
    rw (p.1, p.2) (refused_at c.args.schema.now c.args.self.now c.loop-index.index c.loop-index.load c.in_err-add_batch.field-0.0 few there c.loop-index.invariant c.in_err-add_batch.ensures.refused)

pub loop-index-preserved : goal.loop-index-preserved
loop-index-preserved c =
    let same = ap (λ (x : InputForm). x.rows) c.self.view_is in
    let there : c.loop-index.index * row_limit < c.args.self.now.rows = omega (arith, same) in
    one_more c.args.schema.now c.args.self.now c.loop-index.index c.loop-index.load c.add_batch.new.load there c.loop-index.invariant c.in_ok-add_batch.ensures.added
