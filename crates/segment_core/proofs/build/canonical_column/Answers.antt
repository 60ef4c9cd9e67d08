-- Each vector is made of its part of the rows.
use Rattle.std.proofs.Common.{◌≡◌, ℤ, List, Option, map, length, ◌++◌, ◌∷◌, [], sym, ◌∙◌, ap, arith}
use Rattle.std.proofs.lemmas.List.FromFn.{map-range_with_len_more}
use Rattle.std.specs.List.{range_with_len}
use Rattle.segment_core.specs.CodedVector.{VectorForm, canonical_vector}
use Rattle.segment_core.specs.Segment.{column_cells, cells_in, vector_count}
use Rattle.segment_core.proofs.GatherLemmas.{length-column_cells}
use Rattle.segment_core.proofs.BuildLemmas.{made_all}
use Rattle.segment_core.proofs.build.canonical_column.Goals as goal

pub loop-k-preserved : goal.loop-k-preserved
loop-k-preserved c =
    let cells : List (Option ℤ) = column_cells c.args.rows.now c.args.column in
    let vector : c.in_ok-canonical_part.field-0 ≡ canonical_vector c.args.lane_width (cells_in cells c.loop-k.k) = c.in_ok-canonical_part.ensures in
    let pushed : c.push.new.self.items ≡ c.loop-k.vectors.items ++ (c.in_ok-canonical_part.field-0 ∷ []) = c.in_ok-push.ensures.items in
    pushed
    ∙ ap (λ (vs : List VectorForm). vs ++ (c.in_ok-canonical_part.field-0 ∷ [])) c.loop-k.invariant
    ∙ ap (λ (v : VectorForm). map (λ k. canonical_vector c.args.lane_width (cells_in cells k)) (range_with_len 0 c.loop-k.k) ++ (v ∷ [])) vector
    ∙ sym (map-range_with_len_more (λ k. canonical_vector c.args.lane_width (cells_in cells k)) 0 c.loop-k.k c.loop-k.k (omega arith))

pub returns : goal.returns
returns c =
    let count : c.loop-k.k ≡ vector_count (length (column_cells c.args.rows.now c.args.column)) =
    let t = c.loop-k-test.false in let e = c.loop-k.auto.k-end in let l = c.len.ensures in omega (arith, length-column_cells c.args.rows.now c.args.column) in
    c.from_vec.ensures ∙ made_all c.args.lane_width (column_cells c.args.rows.now c.args.column) c.loop-k.k c.loop-k.vectors.items count c.loop-k.invariant
