-- The rows found are those at which the comparison holds.
use Rattle.std.proofs.Common.{◌≡◌, ◌<◌, ◌&&◌, not, ℕ, to_z, of_z, ap, ◌∙◌}
use Rattle.std.specs.Int.{w128}
use Rattle.std.proofs.lemmas.Int.{to_z-of_z}
use Rattle.table_model.specs.Truth.{compared}
use Rattle.transpose_order.specs.Mask.{has, rows_of}
use Rattle.transpose_order.specs.MaskWords.{has-rows_of}
use Rattle.segment_core.specs.Coded.{value_in}
use Rattle.segment_core.specs.declared.coded.Coded.{Coded}
use Rattle.fused_kernels.specs.Seen.{looked_at}
use Rattle.fused_kernels.specs.VectorSeen.{vector_seen}
use Rattle.fused_kernels.proofs.RangeLemmas.{rows_alike}
use Rattle.fused_kernels.proofs.vector_comparisons.compare_vector.Goals as goal

here : (c : goal.After-parted) (n : ℕ) → n < 1024 → has c.in-Some.found n ≡ compared c.args.op (value_in c.args.vector.now.coded n) c.args.literal
here c n h =
    let literal = to_z w128 (of_z w128 c.args.literal) in
    ap (λ m. has m n) c.in-Some.ensures.rows ∙ has-rows_of (λ n. compared c.args.op (value_in c.coded.result.now n) literal) n h
    ∙ ap (λ (x : Coded). compared c.args.op (value_in x n) literal) c.coded.ensures
    ∙ ap (compared c.args.op (value_in c.args.vector.now.coded n)) (to_z-of_z w128 c.args.literal c.ranges.literal)

pub returns-in-Some-clause-yes : goal.returns-in-Some-clause-yes
returns-in-Some-clause-yes c =
    c.parted.ensures.yes
    ∙ rows_alike (looked_at (vector_seen c.args.vector.now 0) c.args.mask.now) (has c.in-Some.found) (λ n. compared c.args.op (value_in c.args.vector.now.coded n) c.args.literal) (here c)

pub returns-in-Some-clause-no : goal.returns-in-Some-clause-no
returns-in-Some-clause-no c =
    c.parted.ensures.no
    ∙ rows_alike (looked_at (vector_seen c.args.vector.now 0) c.args.mask.now) (λ n. not (has c.in-Some.found n)) (λ n. not (compared c.args.op (value_in c.args.vector.now.coded n) c.args.literal)) (λ n h. ap not (here c n h))

pub returns-in-None-clause-yes : goal.returns-in-None-clause-yes
returns-in-None-clause-yes c =
    c.compare_by_lanes.ensures.yes
    ∙ ap (λ literal. rows_of (λ n. looked_at (vector_seen c.args.vector.now 0) c.args.mask.now n && compared c.args.op (value_in c.args.vector.now.coded n) literal)) (to_z-of_z w128 c.args.literal c.ranges.literal)

pub returns-in-None-clause-no : goal.returns-in-None-clause-no
returns-in-None-clause-no c =
    c.compare_by_lanes.ensures.no
    ∙ ap (λ literal. rows_of (λ n. looked_at (vector_seen c.args.vector.now 0) c.args.mask.now n && not (compared c.args.op (value_in c.args.vector.now.coded n) literal))) (to_z-of_z w128 c.args.literal c.ranges.literal)
