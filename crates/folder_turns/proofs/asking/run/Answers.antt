use Rattle.std.proofs.Common.{sym, ◌∙◌, ap, subst, ℕ, List}
use Rattle.folder_model.specs.Call.{Call}
use Rattle.folder_protocol.specs.Goes.{GoesInTurn}
use Rattle.folder_turns.specs.Asking.{RunSays}
use Rattle.folder_turns.specs.Calls.{call_asked, calls_after}
use Rattle.folder_turns.specs.Run.{run_history}
use Rattle.folder_turns.proofs.Runs.{asked_in_turn, whatever}
use Rattle.folder_turns.proofs.Steps.{asks_more, ends_more, run_asks, run_ends}
use Rattle.folder_turns.proofs.Straying.{run_strays}
use Rattle.folder_turns.proofs.asking.run.Goals as goal

pub returns-clause-in_turn : goal.returns-clause-in_turn
returns-clause-in_turn g c = asks_more c.into_step.result _ _ c.into_step.ensures.asks (λ request stops parts all may.
    asked_in_turn parts g.S.Script.whole request g.S.Script.calls
    (run_asks parts g.S.Script.whole request g.S.Script.before _ _ g.S.Script.calls c.new-folder.ensures stops
    (c.run-outcome.ensures.in_turn parts (subst (λ (l : List Call). g.P.Program.may_run c.args.program.now parts l) (sym c.new-folder.ensures) may)) all))

pub returns-clause-whatever : goal.returns-clause-whatever
returns-clause-whatever g c = asks_more c.into_step.result _ _ c.into_step.ensures.asks (λ request stops parts can all may answer.
    whatever parts (call_asked g.S.Script.whole request) g.S.Script.calls answer can
    (run_asks parts g.S.Script.whole request g.S.Script.before _ _ g.S.Script.calls c.new-folder.ensures stops
    (c.run-outcome.ensures.in_turn parts (subst (λ (l : List Call). g.P.Program.may_run c.args.program.now parts l) (sym c.new-folder.ensures) may)) all))

pub returns-clause-ends : goal.returns-clause-ends
returns-clause-ends g c = ends_more c.into_step.result _ _ c.into_step.ensures.ends (λ end is parts.
    run_ends (λ calls. g.P.Program.may_run c.args.program.now parts calls) (λ outcome before calls. g.P.Program.says c.args.program.now outcome parts before calls)
    end c.run-outcome.result g.S.Script.before _ _ g.S.Script.calls c.new-folder.ensures is (c.run-outcome.ensures.said parts))

pub returns-clause-strays : goal.returns-clause-strays
returns-clause-strays g c = let folder = c.run-outcome.new.folder in
    let made : List Call = run_history g.S.Script.whole folder.told.now g.S.Script.before folder.at folder.stop in
    run_strays c.into_step.result (RunSays (λ parts. g.P.Program.may_run c.args.program.now parts g.S.Script.before) (λ outcome parts calls. g.P.Program.says c.args.program.now outcome parts g.S.Script.before calls) g.S.Script.before)
    g.S.Script.whole folder.told.now g.S.Script.before g.S.Script.calls folder.at made folder.stop c.run-outcome.result
    (ap (λ (w : List ℕ). calls_after w folder.told.now g.S.Script.before) (sym folder.whole_is) ∙ folder.told_is)
    (λ parts. subst (λ (b : List Call). g.P.Program.may_run c.args.program.now parts b → GoesInTurn parts b made × g.P.Program.says c.args.program.now c.run-outcome.result parts b made) c.new-folder.ensures
    (λ may. (c.run-outcome.ensures.in_turn parts may, c.run-outcome.ensures.said parts may)))
    folder.strays c.into_step.ensures.strays
