-- The distinct values of the rows are those of the runs.
use Rattle.std.proofs.Common.{◌↔◌, ◌<◌, ℕ, IsTrue, not, ap, length, subst, arith}
use Rattle.run_dictionary.specs.Runs.{RunForm, run_values}
use Rattle.run_dictionary.specs.Dict.{least_dict, dict_bytes}
use Rattle.run_dictionary.proofs.StepLemmas.{run_of-bound}
use Rattle.run_dictionary.proofs.DistinctLemmas.{distinct-of_runs, length-run_values}
use Rattle.run_dictionary.proofs.BelowLemmas.{dictionary_below}
use Rattle.run_dictionary.proofs.runs.Runs.dictionary_is_below.Goals as goal

pub more_values-requires-clause-many : goal.more_values-requires-clause-many
more_values-requires-clause-many c = omega (arith, run_of-bound _ c.self.invariant)

pub returns : goal.returns
returns c =
    let form : RunForm = record { lane_width = c.self.inside.values.lane_width; starts = c.self.inside.starts; values = c.self.inside.values.values } in
    let rows = run_values form in
    let below = dictionary_below c.lane_width.result rows c.args.bound c.most_values-most.result _ c.more_values.result c.lane_width.ensures.width (omega (arith, length-run_values form)) (omega (arith, length-run_values form)) (ap length (distinct-of_runs form c.self.invariant))
    c.most_values-most.ensures.enough c.most_values-most.ensures.many c.most_values-most.ensures.reached c.more_values.ensures in
    subst (λ (form : RunForm). IsTrue (not c.more_values.result) ↔ (dict_bytes (least_dict form.lane_width (run_values form)) < c.args.bound)) c.self.view_is
    (subst (λ (t : ℕ). IsTrue (not c.more_values.result) ↔ (dict_bytes (least_dict t rows) < c.args.bound)) c.lane_width.ensures.value below)
