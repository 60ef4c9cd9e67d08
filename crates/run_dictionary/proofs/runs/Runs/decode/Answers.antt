-- The rows of each run have its value, which is in range.
use Rattle.std.proofs.Common.{ℤ, List, pos, get_or, sym, ap, ◌∙◌, subst, arith}
use Rattle.transpose_order.specs.Mask.{rows_of}
use Rattle.bit_interleave.specs.Range.{AreInRange}
use Rattle.run_dictionary.specs.Runs.{RunForm, run_of, run_values}
use Rattle.run_dictionary.proofs.RangeLemmas.{AreInRange-run_values}
use Rattle.run_dictionary.proofs.StepLemmas.{run_of-bound}
use Rattle.run_dictionary.proofs.runs.Runs.decode.Goals as goal

pub in_room-requires : goal.in_room-requires
in_room-requires c = omega (arith, run_of-bound _ c.self.invariant)

pub returns-clause-values : goal.returns-clause-values
unfolding run_values
returns-clause-values c =
    c.write_rows.ensures ∙ ap (λ (xs : List ℤ). rows_of (λ n. get_or xs (run_of c.self.inside.starts n) (pos 0))) c.in_room.ensures.values
    ∙ ap (λ (form : RunForm). run_values form) c.self.view_is

pub returns-clause-fit : goal.returns-clause-fit
returns-clause-fit c =
    let written = returns-clause-values c in
    subst (λ (xs : List ℤ). AreInRange c.args.self.now.lane_width xs) (sym written)
    (subst (λ (form : RunForm). AreInRange form.lane_width (run_values form)) c.self.view_is (AreInRange-run_values _ c.self.invariant))
