-- One line more is told; at the end none is left.
use Rattle.std.proofs.Common.{◌≡◌, ◌≤◌, ◌++◌, ◌+◌, ◌∙◌, ℕ, List, drop, length, ap, arith}
use Rattle.std.specs.FinMap as map
use Rattle.std.specs.List.{flat_map}
use Rattle.replica_store.specs.Replica.{entries_of}
use Rattle.replica_reports.specs.BatchDigests.{digest_line, digest_list}
use Rattle.replica_reports.proofs.CountedBatches.{has_one, lines_next, lines_end}
use Rattle.replica_reports.proofs.batch_list.batch_digests.Goals as goal

pub loop-place-preserved : goal.loop-place-preserved
loop-place-preserved c =
    let r = c.args.store.now.replica in
    let index = c.loop-place.place in
    let one = has_one (entries_of r) index (omega (arith, map.len-entries r.state.batches, c.batches-place-end.ensures.value, c.loop-place-test.true)) in
    let line : c.as_bytes.result.now ≡ digest_line c.args.form r one.0 = c.as_bytes.ensures.value ∙ c.in_ok-line.ensures.line one.0 one.1 in
    let next = lines_next (digest_line c.args.form r) (entries_of r) index one.0 c.loop-place.out.items c.as_bytes.result.now (digest_list c.args.form r) one.1 line c.loop-place.invariant in
    ap (λ (out : List ℕ). out ++ flat_map (digest_line c.args.form r) (drop (index + 1) (entries_of r))) c.in_ok-extend_from_slice.ensures.items ∙ next

pub returns-clause-list : goal.returns-clause-list
returns-clause-list c =
    let r = c.args.store.now.replica in
    let end : length (entries_of r) ≤ c.loop-place.place = omega (arith, map.len-entries r.state.batches, c.batches-place-end.ensures.value, c.loop-place-test.false) in
    lines_end (digest_line c.args.form r) (entries_of r) c.loop-place.place c.loop-place.out.items (digest_list c.args.form r) end c.loop-place.invariant
