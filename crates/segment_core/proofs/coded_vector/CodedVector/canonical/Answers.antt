-- The form is that of the filled vector, and the mask is that of the rows that are null.
use Rattle.std.proofs.Common.{◌≡◌, ℤ, List, Option, length, sym, ◌∙◌, ap, subst, arith}
use Rattle.bit_interleave.specs.Range.{AreInRange}
use Rattle.segment_core.specs.Fill.{filled, cells_under}
use Rattle.segment_core.specs.Coded.{least_form}
use Rattle.segment_core.specs.Choice.{canonical_form}
use Rattle.segment_core.specs.Cover.{Cover}
use Rattle.segment_core.specs.CodedVector.{VectorForm, null_mask, some_rows, IsVector}
use Rattle.segment_core.specs.declared.coding.Coding.{Coding}
use Rattle.segment_core.proofs.FillLemmas.{length-cells_under}
use Rattle.segment_core.proofs.VectorLemmas.{filled_in_range, length-null_rows, canonical_is_a_vector}
use Rattle.segment_core.proofs.coded_vector.CodedVector.canonical.Goals as goal

pub choose-requires-clause-fit : goal.choose-requires-clause-fit
choose-requires-clause-fit c =
    subst (λ (xs : List ℤ). AreInRange c.args.lane_width xs) (sym c.fill.ensures)
    (filled_in_range c.args.lane_width (cells_under c.args.rows c.args.nulls.now c.args.values.now) c.requires.lane_width
    c.requires.fit)

pub encode-requires-clause-fit : goal.encode-requires-clause-fit
encode-requires-clause-fit c =
    subst (λ (xs : List ℤ). AreInRange c.args.lane_width xs) (sym c.fill.ensures)
    (filled_in_range c.args.lane_width (cells_under c.args.rows c.args.nulls.now c.args.values.now) c.requires.lane_width
    c.requires.fit)

pub some_rows-requires : goal.some_rows-requires
some_rows-requires c = ap length c.requires.nulls ∙ length-null_rows (cells_under c.args.rows c.args.nulls.now c.args.values.now)

pub returns : goal.returns
returns c =
    let cells : List (Option ℤ) = cells_under c.args.rows c.args.nulls.now c.args.values.now in
    let rows : c.new-cover.result.rows ≡ length cells = ap (λ (x : Cover). x.rows) c.new-cover.ensures ∙ sym (length-cells_under c.args.rows c.args.nulls.now c.args.values.now) in
    let nulls : c.new-cover.result.nulls ≡ null_mask cells = ap (λ (x : Cover). x.nulls) c.new-cover.ensures ∙ c.in_ok-nulls.ensures ∙ ap some_rows c.requires.nulls in
    let coded : c.in_ok-coded.coded ≡ canonical_form c.args.lane_width (filled cells) =
    c.in_ok-coded.ensures ∙ ap (λ (k : Coding). least_form k c.args.lane_width c.fill.new.values) c.choose.ensures.value
    ∙ ap (λ (xs : List ℤ). canonical_form c.args.lane_width xs) c.fill.ensures in
    λ i. record { rows = rows i; nulls = nulls i; coded = coded i }

pub invariant_of-result : goal.invariant_of-result
invariant_of-result c =
    let cells : List (Option ℤ) = cells_under c.args.rows c.args.nulls.now c.args.values.now in
    let count : length cells ≡ c.args.rows = length-cells_under c.args.rows c.args.nulls.now c.args.values.now in
    let some = c.requires.some in
    let limit = c.requires.limit in
    subst (λ (v : VectorForm). IsVector v) (sym (returns c))
    (canonical_is_a_vector c.args.lane_width cells c.requires.lane_width (omega arith) (omega arith)
    c.requires.fit)
