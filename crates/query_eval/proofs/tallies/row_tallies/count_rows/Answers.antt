-- One row more.
use Rattle.std.proofs.Common.{◌≡◌, ◌<◌, ◌++◌, ℕ, List, length, get_or, refl, sym, subst, ◌∙◌, arith, append-nil}
use Rattle.table_model.specs.State.{Cells}
use Rattle.query_eval.specs.Grouping.{IsHeld}
use Rattle.query_eval.specs.Places.{rows_placed}
use Rattle.query_eval.proofs.GroupingLemmas.{held_counted}
use Rattle.query_eval.proofs.tallies.row_tallies.count_rows.Goals as goal

pub loop-row-init : goal.loop-row-init
loop-row-init c = record { size = refl; held = λ a v mask kind counted g t taken l h. subst (λ (rows : List Cells). IsHeld rows a (get_or c.args.tallies.now.items g t)) (sym (append-nil taken)) h }

pub loop-row-preserved : goal.loop-row-preserved
loop-row-preserved c =
    let inv = c.loop-row.invariant in
    record {
      size = c.count_value.ensures.size ∙ inv.size;
      held = λ a v mask kind counted g t taken l h.
          let inside : g < length c.loop-row.tallies.items = omega (arith, l, inv.size) in
          let before = inv.held a v mask kind counted g t taken l h in
          held_counted c.loop-row.row v mask c.args.places.now g a taken c.args.rows.now c.get.result (get_or c.loop-row.tallies.items g t) (get_or c.count_value.new.tallies.items g t) c.loop-row-test.true counted c.get.ensures
          (λ vs z q. c.count_value.ensures.values z g t vs inside (before.kind ∙ kind) q) (c.count_value.ensures.kind g t inside) before;
    }

pub returns-clause-held : goal.returns-clause-held
returns-clause-held c = λ a v mask kind counted g t taken l h.
    let e : c.loop-row.row ≡ 1024 = omega (arith, c.loop-row-test.false, c.loop-row.auto.row-end) in
    subst (λ (k : ℕ). IsHeld (taken ++ rows_placed k v mask c.args.places.now g) a (get_or c.loop-row.tallies.items g t)) e (c.loop-row.invariant.held a v mask kind counted g t taken l h)
