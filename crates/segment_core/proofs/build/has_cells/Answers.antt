-- Each vector is compared with its part of the rows.
use Rattle.std.proofs.Common.{◌≡◌, inl, inr, length, slice_get, Some, refl, sym, ◌∙◌, ap, arith}
use Rattle.std.proofs.lemmas.Option.{slice_get_read, slice_get_within}
use Rattle.std.proofs.lemmas.Bool.{cases_eq}
use Rattle.segment_core.specs.CodedVector.{cells_of}
use Rattle.segment_core.specs.Segment.{column_cells, cells_in}
use Rattle.segment_core.proofs.build.has_cells.Goals as goal

pub returns-then-not-has_part : goal.returns-then-not-has_part
returns-then-not-has_part c =
    let found : slice_get c.args.vectors.now c.loop-k.k ≡ Some c.index-vectors-k.result =
    slice_get_read c.args.vectors.now (length c.args.vectors.now) c.loop-k.k c.index-vectors-k.result refl c.loop-k-test.true c.index-vectors-k.is in (
      λ yes. absurd (cc),
      λ h. c.if-not-has_part.ensures.1 (h c.loop-k.k c.index-vectors-k.result found),
    )

pub loop-k-preserved : goal.loop-k-preserved
loop-k-preserved c =
    let found : slice_get c.args.vectors.now c.loop-k.k ≡ Some c.index-vectors-k.result =
    slice_get_read c.args.vectors.now (length c.args.vectors.now) c.loop-k.k c.index-vectors-k.result refl c.loop-k-test.true c.index-vectors-k.is in
    λ j v l e. elim (cases_eq j c.loop-k.k) [
      | inl same ↦
          (let there : slice_get c.args.vectors.now c.loop-k.k ≡ Some v = ap (slice_get c.args.vectors.now) (sym same) ∙ e in
          let is : v ≡ c.index-vectors-k.result = cc in
          ap cells_of is ∙ c.if-not-has_part.ensures.0 refl ∙ ap (cells_in (column_cells c.args.rows.now c.args.column)) (sym same))
      | inr other ↦ c.loop-k.invariant j v (omega arith) e
    ]

pub returns : goal.returns
returns c =
    (λ _ k v e. c.loop-k.invariant k v (let t = c.loop-k-test.false in let l = slice_get_within c.args.vectors.now k v e in omega arith) e, λ _. refl)
