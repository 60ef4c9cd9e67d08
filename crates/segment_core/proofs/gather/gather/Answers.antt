-- Each cell goes into its place.
use Rattle.std.proofs.Common.{◌≡◌, ℕ, ◌<◌, false, w64, FitsSigned, length, get_or, None, ◌∙◌, ap, subst, arith, add-one, refl}
use Rattle.transpose_order.specs.Mask.{has}
use Rattle.transpose_order.specs.MaskWords.{has-rows_of, length-rows_of}
use Rattle.bit_interleave.specs.Range.{value_at}
use Rattle.segment_core.proofs.GatherLemmas.{Gathering, IsPut, gather_step, gathered_nulls, gathered_cells, if_some, of_some}
use Rattle.segment_core.proofs.gather.gather.Goals as goal

pub loop-row-init : goal.loop-row-init
loop-row-init c = record {
  long = ap length c.none-nulls.ensures ∙ length-rows_of (λ _. false);
  null_so_far = λ k l. absurd (omega arith);
  null_later = λ k l m. ap (λ x. has x k) c.none-nulls.ensures ∙ has-rows_of (λ _. false) k m;
  values_so_far = λ k z l e. absurd (omega arith);
}

pub put_cell-requires-clause-fits : goal.put_cell-requires-clause-fits
put_cell-requires-clause-fits c =
    if_some (get_or c.args.cells.now c.loop-row.row None) (λ z. FitsSigned w64 z) (λ z e. c.requires.fit c.loop-row.row z c.loop-row-test.true e)

pub loop-row-preserved : goal.loop-row-preserved
loop-row-preserved c =
    let below : c.loop-row.row < 1024 = let t = c.loop-row-test.true in let l = c.requires.limit in omega arith in
    let put : IsPut (get_or c.args.cells.now c.loop-row.row None) c.loop-row.row c.loop-row.nulls c.put_cell.new.nulls c.loop-row.values c.put_cell.new.values = record {
      null = c.put_cell.ensures.null;
      other_nulls = c.put_cell.ensures.other_nulls;
      long = c.put_cell.ensures.long c.loop-row.invariant.long;
      value = λ z e. of_some (get_or c.args.cells.now c.loop-row.row None) (λ x. value_at c.put_cell.new.values c.loop-row.row ≡ x) z c.put_cell.ensures.value e;
      other_values = c.put_cell.ensures.other_values;
    } in
    rw (add-one c.loop-row.row)
    (gather_step c.args.cells.now c.loop-row.row c.loop-row.nulls c.put_cell.new.nulls c.loop-row.values c.put_cell.new.values below c.loop-row.invariant put)

pub returns-clause-nulls : goal.returns-clause-nulls
returns-clause-nulls c =
    let count : c.loop-row.row ≡ length c.args.cells.now = let t = c.loop-row-test.false in let e = c.loop-row.auto.row-end in omega arith in
    gathered_nulls c.args.cells.now c.loop-row.nulls c.loop-row.values
    (subst (λ (n : ℕ). Gathering c.args.cells.now n c.loop-row.nulls c.loop-row.values) count c.loop-row.invariant)

pub returns-clause-cells : goal.returns-clause-cells
returns-clause-cells c =
    let count : c.loop-row.row ≡ length c.args.cells.now = let t = c.loop-row-test.false in let e = c.loop-row.auto.row-end in omega arith in
    gathered_cells c.args.cells.now (length c.args.cells.now) c.loop-row.nulls c.loop-row.values refl
    (subst (λ (n : ℕ). Gathering c.args.cells.now n c.loop-row.nulls c.loop-row.values) count c.loop-row.invariant)
