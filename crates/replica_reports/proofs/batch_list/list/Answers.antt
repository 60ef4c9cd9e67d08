-- One line more is told; at the end none is left.
use Rattle.std.proofs.Common.{◌≡◌, ◌≤◌, ◌++◌, ◌+◌, ◌∙◌, ℕ, List, [], drop, length, ap, arith}
use Rattle.std.specs.List.{flat_map}
use Rattle.replica_reports.specs.Counts.{batch_counts, batch_list, batch_line}
use Rattle.replica_reports.specs.declared.batch_counts.BatchCounts.{BatchCounts}
use Rattle.replica_reports.proofs.CountedBatches.{lines_next, lines_end, length-batch_counts}
use Rattle.replica_reports.proofs.batch_list.list.Goals as goal

pub loop-index-preserved : goal.loop-index-preserved
loop-index-preserved c =
    let s = c.args.store.now.replica.state in
    let told : BatchCounts → List ℕ = λ counts. batch_line c.args.form counts [] in
    let line : c.as_bytes.result.now ≡ told c.counts_at.result = c.as_bytes.ensures.value ∙ c.in_ok-line.ensures in
    let next = lines_next told (batch_counts s) c.loop-index.index c.counts_at.result c.loop-index.out.items c.as_bytes.result.now (batch_list c.args.form s) c.counts_at.ensures.counts line c.loop-index.invariant in
    ap (λ (out : List ℕ). out ++ flat_map told (drop (c.loop-index.index + 1) (batch_counts s))) c.in_ok-extend_from_slice.ensures.items ∙ next

pub returns : goal.returns
returns c =
    let s = c.args.store.now.replica.state in
    let told : BatchCounts → List ℕ = λ counts. batch_line c.args.form counts [] in
    let end : length (batch_counts s) ≤ c.loop-index.index = omega (arith, length-batch_counts s, c.batches-index-end.ensures.value, c.loop-index-test.false) in
    lines_end told (batch_counts s) c.loop-index.index c.loop-index.out.items (batch_list c.args.form s) end c.loop-index.invariant
