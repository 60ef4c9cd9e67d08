-- Runs are least where neighbours differ.
use Rattle.std.proofs.Common.{◌≡◌, ◌↔◌, IsTrue, subst}
use Rattle.run_dictionary.specs.Runs.{RunForm, run_values, least_runs}
use Rattle.run_dictionary.proofs.RunLemmas.{least-from_differ, differ-from_least}
use Rattle.run_dictionary.proofs.runs.Runs.is_least.Goals as goal

pub returns : goal.returns
returns c =
    let claim : RunForm → Type 0 = λ form. IsTrue c.all_differ.result ↔ (form ≡ least_runs form.lane_width (run_values form)) in
    subst claim c.self.view_is (
      λ t. least-from_differ _ c.self.invariant (c.all_differ.ensures.0 t),
      λ e. c.all_differ.ensures.1 (differ-from_least _ c.self.invariant e),
    )
