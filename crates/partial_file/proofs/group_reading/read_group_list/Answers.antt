use Rattle.std.proofs.Common.{◌≡◌, ◌-◌, List, [], map, ap, arith}
use Rattle.std.specs.Global.{Vec}
use Rattle.std.proofs.lemmas.Result.{err_from_is_err_and}
use Rattle.table_model.proofs.OrMemory.{or_memory}
use Rattle.segment_core.proofs.ReadAll.{goes_on, ends, is_done}
use Rattle.segment_core.specs.Format.{read_all}
use Rattle.table_model.specs.State.{Cells}
use Rattle.partial_answers.specs.declared.kept.Kept.{Kept}
use Rattle.partial_file.specs.PartialAnswerBytes.{Entry, entry_of, group}
use Rattle.partial_file.proofs.group_reading.read_group_list.Goals as goal

pub loop-init : goal.loop-init
loop-init c =
    let k : c.args.count - 0 ≡ c.args.count = omega arith in
    let none : List Entry = [] in
    let e : map entry_of c.new-groups.result.entries ≡ none = ap (λ (es : List (Cells × Vec Kept)). map entry_of es) c.new-groups.ensures.empty in
    λ i. read_all group (k i) (e i) c.args.total c.args.bytes.now

pub returns-in_err-key : goal.returns-in_err-key
returns-in_err-key c =
    let p = err_from_is_err_and c.from_residual.result c.from_residual.ensures.1 in
    rw (p.1, p.2) (or_memory c.in_err-key.ensures.read (λ fault. ends group c.args.count c.loop.counter (map entry_of c.loop.groups.entries) c.args.total c.loop.rest.now c.in_err-key.field-0.0 _ c.loop-test.true fault c.loop.invariant))

pub loop-preserved : goal.loop-preserved
loop-preserved c =
    rw c.in_ok-put_last.ensures (goes_on group c.args.count c.loop.counter (map entry_of c.loop.groups.entries) c.args.total c.loop.rest.now (c.in_ok-key.key, c.in_ok-key.measures.items) c.in_ok-key.after.now _ c.loop-test.true c.in_ok-key.ensures.read c.loop.invariant)

pub returns : goal.returns
returns c = is_done group c.args.count c.loop.counter (map entry_of c.loop.groups.entries) c.args.total c.loop.rest.now _ c.loop-test.false c.loop.invariant
