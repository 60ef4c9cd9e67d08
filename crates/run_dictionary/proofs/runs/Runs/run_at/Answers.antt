-- The starts up to the row are its run.
use Rattle.std.proofs.Common.{◌<◌, length, ap, ◌∙◌, subst, arith}
use Rattle.run_dictionary.specs.Runs.{RunForm, run_of}
use Rattle.run_dictionary.proofs.RunLemmas.{run_of-within}
use Rattle.run_dictionary.proofs.StepLemmas.{run_of-count}
use Rattle.run_dictionary.proofs.runs.Runs.run_at.Goals as goal

pub returns-clause-run : goal.returns-clause-run
returns-clause-run c =
    c.count_below.ensures ∙ run_of-count c.self.inside.starts c.args.row c.self.invariant.first ∙ ap (λ form. run_of form.starts c.args.row) c.self.view_is

pub returns-clause-within : goal.returns-clause-within
returns-clause-within c =
    let run = run_of-count c.self.inside.starts c.args.row c.self.invariant.first in
    subst (λ (form : RunForm). c.count_below.result < length form.values) c.self.view_is
    (omega (arith, c.count_below.ensures, run, run_of-within _ c.self.invariant c.args.row c.requires))
