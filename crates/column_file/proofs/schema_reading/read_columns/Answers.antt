use Rattle.std.proofs.Common.{◌≡◌, ◌++◌, ◌∷◌, [], map, List, ◌∙◌, ap, rules}
use Rattle.std.proofs.lemmas.List.{map-append}
use Rattle.std.proofs.lemmas.Result.{err_from_is_err_and}
use Rattle.table_model.proofs.OrMemory.{or_memory}
use Rattle.segment_core.proofs.ReadAll.{goes_on, ends, is_done}
use Rattle.column_file.specs.SchemaBytes.{column}
use Rattle.column_file.proofs.SchemaReading.{Asked, shape}
use Rattle.column_file.proofs.schema_reading.read_columns.Goals as goal

pub returns-in_err-name : goal.returns-in_err-name
returns-in_err-name c =
    let p = err_from_is_err_and c.from_residual.result c.from_residual.ensures.1 in
    rw (p.1, p.2) (or_memory c.in_err-name.ensures.read (λ fault. ends (column c.args.version) c.args.count c.loop.counter (map shape c.loop.columns.items) c.args.total c.loop.rest.now c.in_err-name.field-0.0 _ c.loop-test.true (rw c.as_slice.ensures.value at fault) c.loop.invariant))

pub loop-preserved : goal.loop-preserved
loop-preserved c =
    let one : Asked = (c.in_ok-name.name, c.in_ok-name.column_type) in
    let items : c.push.new.self.items ≡ c.loop.columns.items ++ one ∷ [] = search rules in
    let shapes : map shape c.push.new.self.items ≡ map shape c.loop.columns.items ++ shape one ∷ [] = ap (λ (xs : List Asked). map shape xs) items ∙ map-append shape c.loop.columns.items (one ∷ []) in
    rw shapes (goes_on (column c.args.version) c.args.count c.loop.counter (map shape c.loop.columns.items) c.args.total c.loop.rest.now (shape one) c.in_ok-name.after.now _ c.loop-test.true (rw c.as_slice.ensures.value at c.in_ok-name.ensures.read) c.loop.invariant)

pub returns : goal.returns
returns c = is_done (column c.args.version) c.args.count c.loop.counter (map shape c.loop.columns.items) c.args.total c.loop.rest.now _ c.loop-test.false c.loop.invariant
