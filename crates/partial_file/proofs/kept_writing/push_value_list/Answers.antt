use Rattle.std.proofs.Common.{rules, pos, get_or, FitsSigned}
use Rattle.std.specs.Int.{w64}
use Rattle.std.proofs.lemmas.Int.{to_z-of_z}
use Rattle.segment_core.specs.Format.{signed}
use Rattle.partial_file.proofs.Written.{items_more}
use Rattle.partial_file.proofs.kept_writing.push_value_list.Goals as goal

pub loop-one-preserved : goal.loop-one-preserved
loop-one-preserved c =
    let z = get_or c.args.all.now c.loop-one.one-index (pos 0) in
    let fits : FitsSigned w64 z = search rules in
    let same = to_z-of_z w64 z fits in
    items_more (signed 64) c.args.all.now c.loop-one.one-index (pos 0) c.args.bytes.now.items c.loop-one.bytes.items c.push_narrow.new.bytes.items c.loop-one-test.true c.loop-one.invariant
    (rw same at c.in_ok-push_narrow.ensures.put) (rw same at c.in_ok-push_narrow.ensures.valid)
