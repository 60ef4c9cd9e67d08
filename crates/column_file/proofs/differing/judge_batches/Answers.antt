use Rattle.std.proofs.Common.{◌≡◌, ◌<◌, List, length, get_or, set, ap, arith}
use Rattle.replica_store.specs.Segments.{Entry as Held}
use Rattle.column_file.proofs.BatchDifferences.{batches_alike, read_again, set_twice}
use Rattle.column_file.proofs.differing.judge_batches.Goals as goal

pub returns-then-not-judge-clause-judged : goal.returns-then-not-judge-clause-judged
returns-then-not-judge-clause-judged c = λ table stored.
    let es : List Held = c.loop-index.entries.items in
    let old : List Held = c.args.entries.now.items in
    let k = c.loop-index.index in
    let e : Held = c.index_mut-then-not-judge.result.now in
    let made : Held = (e.0, c.put_first_other.new.segment) in
    let judged : Held = (c.index_mut.result.now.0, c.judge.new.self) in
    let same : es ≡ old = c.loop-index.invariant.0 in
    let below : k < length old = omega (arith, ap length same) in
    let is : e ≡ get_or old k e = read_again es old k c.index_mut.result.now e c.judge.new.self same below c.index_mut.ensures.value c.judge.ensures.kept c.index_mut-then-not-judge.ensures.value in
    let put = set_twice es old k judged made e same below in
    batches_alike table old (set (set es k judged) k made) k e c.put_first_other.new.segment stored below is c.loop-index.invariant.1 put.0 put.1 put.2 c.put_first_other.ensures.rows c.in_ok-put_first_other.ensures.differ
