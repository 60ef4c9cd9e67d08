-- The first row that is not null has the first value.
use Rattle.std.proofs.Common.{◌≡◌, false, true, pos, w64, FitsSigned, slice_index_or, rules, sym, ◌∙◌, add-one}
use Rattle.std.proofs.lemmas.Int.{to_z-of_z}
use Rattle.transpose_order.specs.Mask.{has}
use Rattle.segment_core.proofs.FillLemmas.{first_found, none_more, none_at_all}
use Rattle.segment_core.proofs.fill.first_present.Goals as goal

pub returns-then-not-get : goal.returns-then-not-get
returns-then-not-get c =
    let fits : FitsSigned w64 (slice_index_or c.args.values.now c.loop-row.row (pos 0)) = search rules in
    let some : false ≡ has c.args.nulls.now c.loop-row.row = c.if-not-get.ensures in
    to_z-of_z w64 (slice_index_or c.args.values.now c.loop-row.row (pos 0)) fits
    ∙ sym (first_found c.args.rows c.args.nulls.now c.args.values.now c.loop-row.row (pos 0) c.loop-row-test.true (sym some) c.loop-row.invariant)

pub loop-row-preserved : goal.loop-row-preserved
loop-row-preserved c =
    let null : true ≡ has c.args.nulls.now c.loop-row.row = c.if-not-get.ensures in
    rw (add-one c.loop-row.row) (none_more c.args.rows c.args.nulls.now c.args.values.now c.loop-row.row c.loop-row-test.true (sym null) c.loop-row.invariant)

pub returns : goal.returns
returns c = sym (none_at_all c.args.rows c.args.nulls.now c.args.values.now c.loop-row.row (pos 0) c.loop-row-test.false c.loop-row.invariant)
