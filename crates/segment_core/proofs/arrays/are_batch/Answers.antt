-- The columns so far fit.
use Rattle.std.proofs.Common.{ℕ, length, refl, ap, subst, arith}
use Rattle.std.proofs.lemmas.Option.{slice_get_within}
use Rattle.segment_core.specs.Arrays.{NumbersFit}
use Rattle.segment_core.proofs.ArrayLemmas.{arrays_are_batch, fit_more, read_from}
use Rattle.segment_core.proofs.arrays.are_batch.Goals as goal

pub loop-column-preserved : goal.loop-column-preserved
loop-column-preserved c =
    let k : ℕ = c.loop-column.column in
    let long = ap length c.column_list-columns.ensures.list in
    let fit : NumbersFit c.index-columns-column.result.column_type c.index-arrays-column.result.values =
    subst (λ t. NumbersFit t c.index-arrays-column.result.values) c.column_type.ensures (c.fits.ensures c.if-not-fits.false) in
    fit_more c.args.schema.now.columns c.args.arrays.now k c.index-columns-column.result c.index-arrays-column.result
    (read_from c.args.schema.now.columns c.column_list-columns.result.now k c.index-columns-column.result c.column_list-columns.ensures.list c.loop-column-test.true c.index-columns-column.is)
    (read_from c.args.arrays.now c.args.arrays.now k c.index-arrays-column.result refl (omega (arith, c.loop-column-test.true, c.if-arrays-columns.false)) c.index-arrays-column.is)
    fit c.loop-column.invariant

pub returns : goal.returns
returns c = λ _.
    let long = ap length c.column_list-columns.ensures.list in
    arrays_are_batch c.args.schema.now c.args.rows c.args.arrays.now (omega (arith, c.if-rows-eq0.false)) (omega (arith, c.if-rows-gt-MAX_ROWS.false)) (omega (arith, long, c.if-arrays-columns.false)) c.requires
    (λ k column a e f. c.loop-column.invariant k column a (let w = slice_get_within c.args.schema.now.columns k column e in let t = c.loop-column-test.false in let d = c.loop-column.auto.column-end in omega (arith, long)) e f)
