use Rattle.std.proofs.Common.{◌≡◌, ◌++◌, ◌∷◌, [], rules}
use Rattle.std.proofs.lemmas.Result.{err_from_is_err_and}
use Rattle.table_model.proofs.OrMemory.{or_memory}
use Rattle.segment_core.proofs.ReadAll.{goes_on, ends, is_done}
use Rattle.partial_file.specs.PartialAnswerBytes.{value}
use Rattle.partial_file.proofs.kept_reading.read_value_list.Goals as goal

pub returns-in_err-value : goal.returns-in_err-value
returns-in_err-value c =
    let p = err_from_is_err_and c.from_residual.result c.from_residual.ensures.1 in
    rw (p.1, p.2) (or_memory c.in_err-value.ensures (λ fault. ends value c.args.count c.loop.counter c.loop.found.items c.args.total c.loop.rest.now c.in_err-value.field-0.0 _ c.loop-test.true (rw c.as_slice.ensures.value at fault) c.loop.invariant))

pub loop-preserved : goal.loop-preserved
loop-preserved c =
    let items : c.push.new.self.items ≡ c.loop.found.items ++ c.in_ok-value.value ∷ [] = search rules in
    rw items (goes_on value c.args.count c.loop.counter c.loop.found.items c.args.total c.loop.rest.now c.in_ok-value.value c.in_ok-value.after.now _ c.loop-test.true (rw c.as_slice.ensures.value at c.in_ok-value.ensures) c.loop.invariant)

pub returns : goal.returns
returns c = is_done value c.args.count c.loop.counter c.loop.found.items c.args.total c.loop.rest.now _ c.loop-test.false c.loop.invariant
