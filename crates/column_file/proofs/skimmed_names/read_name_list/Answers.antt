use Rattle.std.proofs.Common.{◌≡◌, ◌++◌, ◌∷◌, [], rules}
use Rattle.std.proofs.lemmas.Result.{err_from_is_err_and}
use Rattle.table_model.proofs.OrMemory.{or_memory}
use Rattle.segment_core.proofs.ReadAll.{goes_on, ends, is_done}
use Rattle.column_file.specs.Skimming.{as_name}
use Rattle.column_file.proofs.skimmed_names.read_name_list.Goals as goal

pub returns-in_err-name : goal.returns-in_err-name
returns-in_err-name c =
    let p = err_from_is_err_and c.from_residual.result c.from_residual.ensures.1 in
    rw (p.1, p.2) (or_memory c.in_err-name.ensures (λ fault. ends (as_name c.args.schema.now) c.args.count c.loop.counter c.loop.names.items c.args.total c.loop.rest.now c.in_err-name.field-0.0 _ c.loop-test.true (rw c.as_slice.ensures.value at fault) c.loop.invariant))

pub loop-preserved : goal.loop-preserved
loop-preserved c =
    let items : c.push.new.self.items ≡ c.loop.names.items ++ c.in_ok-name.name ∷ [] = search rules in
    rw items (goes_on (as_name c.args.schema.now) c.args.count c.loop.counter c.loop.names.items c.args.total c.loop.rest.now c.in_ok-name.name c.in_ok-name.after.now _ c.loop-test.true (rw c.as_slice.ensures.value at c.in_ok-name.ensures) c.loop.invariant)

pub returns : goal.returns
returns c = is_done (as_name c.args.schema.now) c.args.count c.loop.counter c.loop.names.items c.args.total c.loop.rest.now _ c.loop-test.false c.loop.invariant
