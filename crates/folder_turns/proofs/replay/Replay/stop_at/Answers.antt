-- The run stops at a call that isn't the one that was told, or that can't be asked for.
use Rattle.std.proofs.Common.{sym, ◌∙◌, subst, ℕ, List}
use Rattle.folder_turns.specs.Calls.{wanted_of}
use Rattle.folder_turns.specs.Straying.{IsNoRequest}
use Rattle.folder_turns.proofs.Straying.{failing_at, fails_for, turns_at_none, turns_at_other}
use Rattle.folder_turns.proofs.replay.Replay.stop_at.Goals as goal

pub returns-then-self-clause-strays : goal.returns-then-self-clause-strays
returns-then-self-clause-strays g c = λ _.
    turns_at_other g.S.Script.whole c.args.self.now.told.now g.S.Script.before c.args.self.now.at _ (wanted_of c.args.wanted)
    (failing_at g.S.Script.whole _ c.failing.result (wanted_of c.args.wanted) _ c.failing.ensures.why c.failing.ensures.since)
    c.if-self.true (c.requires.other c.if-self.true)

pub returns-in-Err-clause-strays : goal.returns-in-Err-clause-strays
returns-in-Err-clause-strays g c = λ same.
    turns_at_none g.S.Script.whole c.args.self.now.told.now g.S.Script.before c.args.self.now.at _ (wanted_of c.args.wanted)
    (failing_at g.S.Script.whole _ c.failing-in-Err.result (wanted_of c.args.wanted) _ c.failing-in-Err.ensures.why c.failing-in-Err.ensures.since)
    (subst (λ (whole : List ℕ). IsNoRequest whole (wanted_of c.args.wanted)) c.args.self.now.whole_is
    (c.in-Err.ensures.strays (fails_for c.in-Err.fault _ (sym c.failing-in-Err.ensures.why ∙ same))))
