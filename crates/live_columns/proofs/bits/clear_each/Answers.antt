-- The bit of one cell more.
use Rattle.std.proofs.Common.{◌≡◌, ◌+◌, ◌*◌, ◌<◌, ◌≤◌, ℕ, Bool, true, false, List, [], ◌∷◌, ◌++◌, length, sym, ap, subst, ◌∙◌, arith, append_assoc, append-nil, length-append}
use Rattle.transpose_order.specs.Mask.{has}
use Rattle.live_columns.specs.Bits.{AreMarked}
use Rattle.live_columns.proofs.Picked.{picked_below, picked_more, picked_all, picked_room}
use Rattle.live_columns.proofs.bits.clear_each.Goals as goal
use Rattle.live_columns.proofs.bits.clear_each.Goals.{then-get, else-get}

pub mark_cell-requires : goal.mark_cell-requires
mark_cell-requires c =
    let here : c.loop-row.row < 1024 = omega (arith, c.loop-row-test.true) in
    omega (arith, c.requires.room, c.loop-row.invariant.cell, c.loop-row.auto.valid, picked_room c.loop-row.row c.args.rows.now (has c.args.nulls.now) here (sym c.get.ensures ∙ c.if-get.true))

pub overflow_add-cell : goal.overflow_add-cell
overflow_add-cell c =
    let here : c.loop-row.row < 1024 = omega (arith, c.loop-row-test.true) in
    omega (arith, c.requires.room, c.requires.size, c.loop-row.invariant.cell, picked_room c.loop-row.row c.args.rows.now (has c.args.nulls.now) here (sym c.get.ensures ∙ c.if-get.true))

pub loop-row-preserved : goal.loop-row-preserved
loop-row-preserved c =
    let k : ℕ = c.loop-row.row in
    let rows : List Bool = c.args.rows.now in
    let nulls : List Bool = c.args.nulls.now in
    let front : List Bool = picked_below k rows (has nulls) in
    let inv = c.loop-row.invariant in
    elim c.if-get.branch [
      | then-get w ↦
          let more = picked_more k rows (has nulls) true (sym c.get.ensures ∙ w.if-get.true) in
          record {
            cell = omega (arith, w.cell-is, inv.cell, ap length more, length-append front (has nulls k ∷ []));
            marked = λ before cells first h.
                let here : length (cells ++ front) ≡ c.loop-row.cell = omega (arith, first, inv.cell, length-append cells front) in
                let next : AreMarked before ((cells ++ front) ++ has nulls k ∷ []) c.if-get.valid =
                subst (λ (v : List ℕ). AreMarked before ((cells ++ front) ++ has nulls k ∷ []) v) (sym w.valid-is)
                (subst (λ (b : Bool). AreMarked before ((cells ++ front) ++ b ∷ []) w.mark_cell.new.valid) w.get-then-get.ensures (w.mark_cell.ensures before (cells ++ front) here (inv.marked before cells first h))) in
                subst (λ (l : List Bool). AreMarked before l c.if-get.valid) (append_assoc cells front (has nulls k ∷ []) ∙ ap (λ l. cells ++ l) (sym more)) next;
          }
      | else-get w ↦
          let more = picked_more k rows (has nulls) false (sym c.get.ensures ∙ w.if-get.false) ∙ append-nil front in
          record {
            cell = omega (arith, w.cell-is, inv.cell, ap length more);
            marked = λ before cells first h.
                subst (λ (v : List ℕ). AreMarked before (cells ++ picked_below (k + 1) rows (has nulls)) v) (sym w.valid-is)
                (subst (λ (l : List Bool). AreMarked before (cells ++ l) c.loop-row.valid) (sym more) (inv.marked before cells first h));
          }
    ]

pub returns : goal.returns
returns c = λ before cells first h.
    let e : c.loop-row.row ≡ 1024 = omega (arith, c.loop-row-test.false, c.loop-row.auto.row-end) in
    subst (λ (l : List Bool). AreMarked before (cells ++ l) c.loop-row.valid) (picked_all c.loop-row.row c.args.rows.now (has c.args.nulls.now) e) (c.loop-row.invariant.marked before cells first h)
