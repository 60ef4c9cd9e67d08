-- The run begins after the calls before, if the folder may be synced after them.
use Rattle.std.proofs.Common.{◌≡◌, ◌++◌, refl, true, subst, List}
use Rattle.folder_model.specs.Call.{Call, can_settle}
use Rattle.folder_model.specs.Turn.{InTurn, AllInTurn}
use Rattle.folder_turns.specs.Asking.{HasRunAstray}
use Rattle.folder_turns.specs.Calls.{call_asked, answered, calls_after}
use Rattle.folder_turns.specs.Straying.{IfStrayed}
use Rattle.folder_turns.proofs.Runs.{told_in_turn, can_first, started_can, started_is}
use Rattle.folder_turns.proofs.Steps.{asks_more, ends_more}
use Rattle.folder_turns.proofs.asking.next.Goals as goal

pub run-requires-clause-whole : goal.run-requires-clause-whole
run-requires-clause-whole g c = refl

pub run-requires-clause-told : goal.run-requires-clause-told
run-requires-clause-told g c = refl

pub run-requires-clause-settles : goal.run-requires-clause-settles
run-requires-clause-settles g c = started_can g.before

pub returns-clause-in_turn : goal.returns-clause-in_turn
returns-clause-in_turn g c = asks_more c.run.result _ _ c.run.ensures.in_turn (λ request turn parts can.
    subst (λ (b : List Call). AllInTurn parts b → g.P.Program.may_run c.args.program.now parts b → InTurn parts (calls_after c.args.whole.now c.args.told.now b) (call_asked c.args.whole.now request))
    (started_is g.before can) (turn parts))

pub returns-clause-whatever : goal.returns-clause-whatever
returns-clause-whatever g c = asks_more c.run.result _ _ c.run.ensures.whatever (λ request turn parts can all may answer.
    let whole = c.args.whole.now in
    let told = c.args.told.now in
    let is = started_is g.before (can_first whole told g.before can) in
    told_in_turn parts whole told g.before request answer
    (subst (λ (b : List Call). can_settle (calls_after whole told b) ≡ true → AllInTurn parts b → g.P.Program.may_run c.args.program.now parts b → AllInTurn parts (answered (call_asked whole request) answer ++ calls_after whole told b))
    is (λ can_all all_before may_before. turn parts can_all all_before may_before answer) can all may))

pub returns-clause-ends : goal.returns-clause-ends
returns-clause-ends g c = ends_more c.run.result _ _ c.run.ensures.ends (λ end said parts can.
    subst (λ (b : List Call). g.P.Program.may_run c.args.program.now parts b → g.P.Program.says c.args.program.now end parts b (calls_after c.args.whole.now c.args.told.now b))
    (started_is g.before can) (said parts))

pub returns-clause-strays : goal.returns-clause-strays
returns-clause-strays g c = λ can.
    subst (λ (b : List Call). IfStrayed c.run.result (HasRunAstray (g.P.Program.may_run c.args.program.now) (g.P.Program.says c.args.program.now) c.args.whole.now b (calls_after c.args.whole.now c.args.told.now b)))
    (started_is g.before can) c.run.ensures.strays
