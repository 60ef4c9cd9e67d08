use Rattle.std.proofs.Common.{◌≡◌, ◌++◌, ◌∷◌, [], map, length, List, ◌∙◌, ap, subst, sym, rules}
use Rattle.std.specs.List.{All}
use Rattle.std.proofs.lemmas.List.{map-append}
use Rattle.std.proofs.lemmas.Result.{err_from_is_err_and}
use Rattle.table_model.proofs.OrMemory.{or_memory}
use Rattle.segment_core.proofs.ReadAll.{goes_on, ends, is_done}
use Rattle.replica_store.specs.Segments.{Entry as Held}
use Rattle.column_file.specs.ContainerBytes.{IsFound, entry_of, batch}
use Rattle.column_file.proofs.ContainerReading.{all_pushed}
use Rattle.column_file.proofs.container_reading.read_batch_list.Goals as goal

pub returns-in_err-name-clause-read : goal.returns-in_err-name-clause-read
returns-in_err-name-clause-read c =
    let p = err_from_is_err_and c.from_residual.result c.from_residual.ensures.1 in
    rw (p.1, p.2) (or_memory c.in_err-name.ensures.read (λ fault. ends (batch c.args.schema.now) c.args.count c.loop.counter (map entry_of c.loop.found.items) (length c.args.bytes.now) c.loop.rest.now c.in_err-name.field-0.0 _ c.loop-test.true (rw c.as_slice.ensures.value at fault) c.loop.invariant.read))

pub loop-preserved : goal.loop-preserved
loop-preserved c =
    let one : Held = (c.in_ok-name.name, c.in_ok-name.segment) in
    let items : c.push.new.self.items ≡ c.loop.found.items ++ one ∷ [] = search rules in
    let entries : map entry_of c.push.new.self.items ≡ map entry_of c.loop.found.items ++ entry_of one ∷ [] = ap (λ (xs : List Held). map entry_of xs) items ∙ map-append entry_of c.loop.found.items (one ∷ []) in
    let P : List Held → Type 0 = λ xs. All (IsFound c.args.schema.now) xs in
    record {
      read = rw entries (goes_on (batch c.args.schema.now) c.args.count c.loop.counter (map entry_of c.loop.found.items) (length c.args.bytes.now) c.loop.rest.now (entry_of one) c.in_ok-name.after.now _ c.loop-test.true (rw c.as_slice.ensures.value at c.in_ok-name.ensures.read) c.loop.invariant.read);
      rest = c.in_ok-name.ensures.rest;
      found = subst P (sym items) (all_pushed (IsFound c.args.schema.now) c.loop.found.items one c.loop.invariant.found c.in_ok-name.ensures.found);
    }

pub returns-clause-read : goal.returns-clause-read
returns-clause-read c = is_done (batch c.args.schema.now) c.args.count c.loop.counter (map entry_of c.loop.found.items) (length c.args.bytes.now) c.loop.rest.now _ c.loop-test.false c.loop.invariant.read
