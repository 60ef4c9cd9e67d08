use Rattle.std.proofs.Common.{◌≡◌, ◌++◌, ◌∷◌, [], rules}
use Rattle.std.proofs.lemmas.Result.{err_from_is_err_and}
use Rattle.table_model.proofs.OrMemory.{or_memory}
use Rattle.segment_core.proofs.ReadAll.{goes_on, ends, is_done}
use Rattle.partial_file.specs.PartialAnswerBytes.{run}
use Rattle.partial_file.proofs.run_reading.read_run_list.Goals as goal

pub returns-in_err-one : goal.returns-in_err-one
returns-in_err-one c =
    let p = err_from_is_err_and c.from_residual.result c.from_residual.ensures.1 in
    rw (p.1, p.2) (or_memory c.in_err-one.ensures (λ fault. ends run c.args.count c.loop.counter c.loop.found.items c.args.total c.loop.rest.now c.in_err-one.field-0.0 _ c.loop-test.true (rw c.as_slice.ensures.value at fault) c.loop.invariant))

pub loop-preserved : goal.loop-preserved
loop-preserved c =
    let items : c.push.new.self.items ≡ c.loop.found.items ++ c.in_ok-one.one ∷ [] = search rules in
    rw items (goes_on run c.args.count c.loop.counter c.loop.found.items c.args.total c.loop.rest.now c.in_ok-one.one c.in_ok-one.after.now _ c.loop-test.true (rw c.as_slice.ensures.value at c.in_ok-one.ensures) c.loop.invariant)

pub returns : goal.returns
returns c = is_done run c.args.count c.loop.counter c.loop.found.items c.args.total c.loop.rest.now _ c.loop-test.false c.loop.invariant
