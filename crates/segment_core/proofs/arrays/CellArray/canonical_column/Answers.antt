-- Each vector is made of its part of the cells.
use Rattle.std.proofs.Common.{◌≡◌, ℤ, List, Option, map, length, ◌++◌, ◌∷◌, [], sym, ◌∙◌, ap, arith}
use Rattle.std.proofs.lemmas.List.FromFn.{map-range_with_len_more}
use Rattle.std.specs.List.{range_with_len}
use Rattle.segment_core.specs.Arrays.{ArrayForm, array_cells}
use Rattle.segment_core.specs.CodedVector.{VectorForm, canonical_vector}
use Rattle.segment_core.specs.Segment.{cells_in, vector_count}
use Rattle.segment_core.proofs.ArrayLemmas.{length-array_cells}
use Rattle.segment_core.proofs.BuildLemmas.{made_all}
use Rattle.segment_core.proofs.arrays.CellArray.canonical_column.Goals as goal

pub canonical_part-requires-clause-within : goal.canonical_part-requires-clause-within
canonical_part-requires-clause-within c =
    let same = ap (λ (a : ArrayForm). length a.values) c.self.view_is in
    omega (arith, same, c.div_ceil-count.ensures, c.loop-k-test.true)

pub loop-k-preserved : goal.loop-k-preserved
loop-k-preserved c =
    let cells : List (Option ℤ) = array_cells c.args.self.now in
    let pushed : c.push.new.self.items ≡ c.loop-k.vectors.items ++ (c.in_ok-canonical_part.field-0 ∷ []) = c.in_ok-push.ensures.items in
    pushed
    ∙ ap (λ (vs : List VectorForm). vs ++ (c.in_ok-canonical_part.field-0 ∷ [])) c.loop-k.invariant
    ∙ ap (λ (v : VectorForm). map (λ k. canonical_vector c.args.lane_width (cells_in cells k)) (range_with_len 0 c.loop-k.k) ++ (v ∷ [])) c.in_ok-canonical_part.ensures
    ∙ sym (map-range_with_len_more (λ k. canonical_vector c.args.lane_width (cells_in cells k)) 0 c.loop-k.k c.loop-k.k (omega arith))

pub returns : goal.returns
returns c =
    let same = ap (λ (a : ArrayForm). length a.values) c.self.view_is in
    let count : c.loop-k.k ≡ vector_count (length (array_cells c.args.self.now)) =
    let t = c.loop-k-test.false in let e = c.loop-k.auto.k-end in omega (arith, same, c.div_ceil-count.ensures, length-array_cells c.args.self.now) in
    c.from_vec.ensures ∙ made_all c.args.lane_width (array_cells c.args.self.now) c.loop-k.k c.loop-k.vectors.items count c.loop-k.invariant
