use Rattle.std.proofs.Common.{◌≡◌, ◌++◌, ◌∷◌, [], rules}
use Rattle.std.proofs.lemmas.Result.{err_from_is_err_and}
use Rattle.table_model.proofs.OrMemory.{or_memory}
use Rattle.segment_core.proofs.ReadAll.{goes_on, ends, is_done}
use Rattle.partial_file.specs.PartialAnswerBytes.{kept}
use Rattle.partial_file.proofs.kept_reading.read_measure_list.Goals as goal

pub returns-in_err-measure : goal.returns-in_err-measure
returns-in_err-measure c =
    let p = err_from_is_err_and c.from_residual.result c.from_residual.ensures.1 in
    rw (p.1, p.2) (or_memory c.in_err-measure.ensures (λ fault. ends (λ _. kept) c.args.count c.loop.counter c.loop.found.items c.args.total c.loop.rest.now c.in_err-measure.field-0.0 _ c.loop-test.true fault c.loop.invariant))

pub loop-preserved : goal.loop-preserved
loop-preserved c =
    let items : c.push.new.self.items ≡ c.loop.found.items ++ c.in_ok-measure.measure ∷ [] = search rules in
    rw items (goes_on (λ _. kept) c.args.count c.loop.counter c.loop.found.items c.args.total c.loop.rest.now c.in_ok-measure.measure c.in_ok-measure.after.now _ c.loop-test.true c.in_ok-measure.ensures c.loop.invariant)

pub returns : goal.returns
returns c = is_done (λ _. kept) c.args.count c.loop.counter c.loop.found.items c.args.total c.loop.rest.now _ c.loop-test.false c.loop.invariant
