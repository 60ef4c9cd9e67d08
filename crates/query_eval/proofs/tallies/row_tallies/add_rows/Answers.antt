-- One row more.
use Rattle.std.proofs.Common.{rules, FitsSigned, w64, true, false, cond, pos, ◌≡◌, ◌==◌, ◌<◌, ◌+◌, ◌++◌, ◌∷◌, [], ℕ, ℤ, List, length, get_or, refl, sym, subst, ap, ◌∙◌, arith, append-nil}
use Rattle.std.specs.Global.{Vec}
use Rattle.std.proofs.lemmas.Int.{to_z-of_z}
use Rattle.table_model.specs.State.{Cells}
use Rattle.transpose_order.specs.Mask.{has}
use Rattle.query_eval.specs.Grouping.{IsHeld}
use Rattle.query_eval.specs.Places.{rows_placed}
use Rattle.query_eval.specs.Tally.{IsTally}
use Rattle.query_eval.specs.declared.tallies.tally.Tally.{Tally}
use Rattle.query_eval.proofs.GroupingLemmas.{held_on, held_off}
use Rattle.query_eval.proofs.tallies.row_tallies.add_rows.Goals as goal
use Rattle.query_eval.proofs.tallies.row_tallies.add_rows.Goals.{then-get+in_ok-add_value, else-get}

pub loop-row-init : goal.loop-row-init
loop-row-init c = record { size = refl; held = λ a v mask shown g t taken l h. subst (λ (rows : List Cells). IsHeld rows a (get_or c.args.tallies.now.items g t)) (sym (append-nil taken)) h }

pub loop-row-preserved : goal.loop-row-preserved
loop-row-preserved c =
    let n = c.loop-row.row in
    let rows = c.args.rows.now in
    let values = c.args.values.now in
    let places = c.args.places.now in
    let inv = c.loop-row.invariant in
    elim c.if-get.branch [
      | then-get+in_ok-add_value w ↦
          let fits : FitsSigned w64 (get_or values n (pos 0)) = search rules in
          record {
            size = ap (λ (v : Vec Tally). length v.items) w.tallies-is ∙ w.in_ok-add_value.ensures.size ∙ inv.size;
            held = λ a v mask shown g t taken l h.
                let on : has rows n ≡ true = sym c.get.ensures ∙ w.if-get.true in
                let inside : g < length c.loop-row.tallies.items = omega (arith, l, inv.size) in
                subst (λ (x : Vec Tally). IsHeld (taken ++ rows_placed (n + 1) v mask places g) a (get_or x.items g t)) (sym w.tallies-is)
                (held_on n v mask places g a taken rows values (get_or c.loop-row.tallies.items g t) (get_or w.add_value.new.tallies.items g t) c.loop-row-test.true shown on
                (λ vs h2. subst (λ (z : ℤ). IsTally (vs ++ cond (get_or places n 0 == g) (z ∷ []) []) (get_or w.add_value.new.tallies.items g t)) (to_z-of_z w64 (get_or values n (pos 0)) fits) (w.in_ok-add_value.ensures.values g t vs inside h2)) (w.in_ok-add_value.ensures.kind g t inside) (inv.held a v mask shown g t taken l h));
          }
      | else-get w ↦
          record {
            size = ap (λ (v : Vec Tally). length v.items) w.tallies-is ∙ inv.size;
            held = λ a v mask shown g t taken l h.
                let off : has rows n ≡ false = sym c.get.ensures ∙ w.if-get.false in
                subst (λ (x : Vec Tally). IsHeld (taken ++ rows_placed (n + 1) v mask places g) a (get_or x.items g t)) (sym w.tallies-is)
                (held_off n v mask places g a taken rows values (get_or c.loop-row.tallies.items g t) c.loop-row-test.true shown off (inv.held a v mask shown g t taken l h));
          }
    ]

pub returns-clause-held : goal.returns-clause-held
returns-clause-held c = λ a v mask shown g t taken l h.
    let e : c.loop-row.row ≡ 1024 = omega (arith, c.loop-row-test.false, c.loop-row.auto.row-end) in
    subst (λ (k : ℕ). IsHeld (taken ++ rows_placed k v mask c.args.places.now g) a (get_or c.loop-row.tallies.items g t)) e (c.loop-row.invariant.held a v mask shown g t taken l h)
