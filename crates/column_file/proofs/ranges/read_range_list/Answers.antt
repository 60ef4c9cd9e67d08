use Rattle.std.proofs.Common.{◌≡◌, ◌++◌, ◌∷◌, [], map, List, ◌∙◌, ap, rules}
use Rattle.std.proofs.lemmas.List.{map-append}
use Rattle.std.proofs.lemmas.List.Elements.{All-nil, All-cons, All-append}
use Rattle.std.proofs.lemmas.Result.{err_from_is_err_and}
use Rattle.table_model.proofs.OrMemory.{or_memory}
use Rattle.catalogue_join.specs.RowRange.{RowRange}
use Rattle.segment_core.proofs.ReadAll.{goes_on, ends, is_done}
use Rattle.column_file.specs.ContainerBytes.{deleted_of, range}
use Rattle.column_file.specs.Files.{IsRangeGiven}
use Rattle.column_file.proofs.ranges.read_range_list.Goals as goal

pub returns-in_err-range-clause-read : goal.returns-in_err-range-clause-read
returns-in_err-range-clause-read c =
    let p = err_from_is_err_and c.from_residual.result c.from_residual.ensures.1 in
    rw (p.1, p.2) (or_memory c.in_err-range.ensures.read (λ fault. ends range c.args.count c.loop.counter (map deleted_of c.loop.found.items) c.args.total c.loop.rest.now c.in_err-range.field-0.0 _ c.loop-test.true (rw c.as_slice.ensures.value at fault) c.loop.invariant.read))

pub loop-preserved : goal.loop-preserved
loop-preserved c =
    let items : c.push.new.self.items ≡ c.loop.found.items ++ c.in_ok-range.range ∷ [] = search rules in
    let parts : map deleted_of c.push.new.self.items ≡ map deleted_of c.loop.found.items ++ deleted_of c.in_ok-range.range ∷ [] = ap (λ (xs : List RowRange). map deleted_of xs) items ∙ map-append deleted_of c.loop.found.items (c.in_ok-range.range ∷ []) in
    record {
      read = rw parts (goes_on range c.args.count c.loop.counter (map deleted_of c.loop.found.items) c.args.total c.loop.rest.now (deleted_of c.in_ok-range.range) c.in_ok-range.after.now _ c.loop-test.true (rw c.as_slice.ensures.value at c.in_ok-range.ensures.read) c.loop.invariant.read);
      given = rw items (All-append IsRangeGiven c.loop.found.items (c.in_ok-range.range ∷ []) c.loop.invariant.given (All-cons IsRangeGiven c.in_ok-range.range [] c.in_ok-range.ensures.given (All-nil IsRangeGiven)));
    }

pub returns-clause-read : goal.returns-clause-read
returns-clause-read c = is_done range c.args.count c.loop.counter (map deleted_of c.loop.found.items) c.args.total c.loop.rest.now _ c.loop-test.false c.loop.invariant.read
