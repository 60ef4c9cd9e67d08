use Rattle.std.proofs.Common.{◌≡◌, ◌++◌, ◌∷◌, [], rules}
use Rattle.std.proofs.lemmas.Result.{err_from_is_err_and}
use Rattle.table_model.proofs.OrMemory.{or_memory}
use Rattle.segment_core.proofs.ReadAll.{goes_on, ends, is_done}
use Rattle.partial_file.specs.PartialAnswerBytes.{cell}
use Rattle.partial_file.proofs.kept_reading.read_cell_list.Goals as goal

pub returns-in_err-cell : goal.returns-in_err-cell
returns-in_err-cell c =
    let p = err_from_is_err_and c.from_residual.result c.from_residual.ensures.1 in
    rw (p.1, p.2) (or_memory c.in_err-cell.ensures (λ fault. ends (λ _. cell) c.args.count c.loop.counter c.loop.key c.args.total c.loop.rest.now c.in_err-cell.field-0.0 _ c.loop-test.true fault c.loop.invariant))

pub loop-preserved : goal.loop-preserved
loop-preserved c =
    let items : c.push.new.self ≡ c.loop.key ++ c.in_ok-cell.cell ∷ [] = search rules in
    rw items (goes_on (λ _. cell) c.args.count c.loop.counter c.loop.key c.args.total c.loop.rest.now c.in_ok-cell.cell c.in_ok-cell.after.now _ c.loop-test.true c.in_ok-cell.ensures c.loop.invariant)

pub returns : goal.returns
returns c = is_done (λ _. cell) c.args.count c.loop.counter c.loop.key c.args.total c.loop.rest.now _ c.loop-test.false c.loop.invariant
