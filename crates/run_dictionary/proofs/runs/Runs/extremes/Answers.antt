-- The values of the rows are those of the runs, each of which has a row.
use Rattle.std.proofs.Common.{suc, pos, ◌≤ℤ◌, get_or, sym, ap, ◌∙◌, subst, arith}
use Rattle.transpose_order.specs.Mask.{has}
use Rattle.run_dictionary.specs.Runs.{RunForm, run_of, run_value}
use Rattle.run_dictionary.proofs.RunLemmas.{run_of-within, row_of_run}
use Rattle.run_dictionary.proofs.runs.Runs.extremes.Goals as goal

pub returns-clause-bounds : goal.returns-clause-bounds
returns-clause-bounds c = λ n h.
    let least = c.extremes.result.0 in
    let greatest = c.extremes.result.1 in
    let bounds = c.extremes.ensures.bounds in
    subst (λ (form : RunForm). (least ≤ℤ run_value form n) × (run_value form n ≤ℤ greatest)) c.self.view_is
    (bounds (run_of c.self.inside.starts n) (run_of-within _ c.self.invariant n h))

pub returns-clause-least : goal.returns-clause-least
returns-clause-least c =
    let xs = c.self.inside.values.values in
    let starts = c.self.inside.starts in
    let run = c.extremes.ensures.least in
    let row = row_of_run (λ i. has starts (suc i)) 1023 run.0 (omega (arith, c.self.invariant.count, run.1)) in
    (row.0, omega (arith, row.1), ap (λ (form : RunForm). run_value form row.0) (sym c.self.view_is) ∙ ap (λ j. get_or xs j (pos 0)) row.2 ∙ run.2)

pub returns-clause-greatest : goal.returns-clause-greatest
returns-clause-greatest c =
    let xs = c.self.inside.values.values in
    let starts = c.self.inside.starts in
    let run = c.extremes.ensures.greatest in
    let row = row_of_run (λ i. has starts (suc i)) 1023 run.0 (omega (arith, c.self.invariant.count, run.1)) in
    (row.0, omega (arith, row.1), ap (λ (form : RunForm). run_value form row.0) (sym c.self.view_is) ∙ ap (λ j. get_or xs j (pos 0)) row.2 ∙ run.2)
