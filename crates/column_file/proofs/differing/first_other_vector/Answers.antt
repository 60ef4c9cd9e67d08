use Rattle.std.proofs.Common.{◌≡◌, ℕ, [], List, take, slice_index_or, sym, subst, arith}
use Rattle.std.proofs.lemmas.Option.{slice_get_within}
use Rattle.segment_core.specs.CodedVector.{VectorForm, canonical_of}
use Rattle.segment_core.specs.Segment.{canonical_vectors}
use Rattle.column_file.proofs.FirstOthers.{map_more}
use Rattle.column_file.proofs.differing.first_other_vector.Goals as goal

pub loop-vector-preserved : goal.loop-vector-preserved
loop-vector-preserved c =
    let vs = slice_index_or c.args.segment.now.forms c.args.column [] in
    map_more canonical_of vs c.loop-vector.vector c.vector.result.now c.vector.ensures (sym (c.is_canonical.ensures.0 c.if-not-is_canonical.false)) c.loop-vector.invariant

pub returns : goal.returns
returns c =
    let vs : List VectorForm = slice_index_or c.args.segment.now.forms c.args.column [] in
    let end : c.loop-vector.vector ≡ c.args.vectors = omega arith in
    let P : ℕ → Type 0 = λ n. take n (canonical_vectors vs) ≡ take n vs in
    record {
      inside = omega (arith, c.requires.long);
      front = subst P end c.loop-vector.invariant;
      other = λ v there is. let below = slice_get_within vs c.args.vectors v there in absurd (omega (arith, below, c.requires.long));
    }
