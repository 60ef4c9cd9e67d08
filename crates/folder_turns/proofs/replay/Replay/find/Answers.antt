use Rattle.std.proofs.Common.{ap, ◌∙◌, sym, ℕ, List}
use Rattle.folder_turns.specs.Calls.{call_asked}
use Rattle.folder_turns.proofs.Runs.{made_more}
use Rattle.folder_turns.proofs.replay.Replay.find.Goals as goal

pub returns-then-is-clause-next : goal.returns-then-is-clause-next
returns-then-is-clause-next g c =
    made_more g.S.Script.whole c.args.self.now.told.now g.S.Script.before c.args.self.now.at c.in-Some.told.now _
    c.in-Some.ensures.lookup.3.0 (sym c.in-Some.ensures.lookup.1)
    (ap (λ (w : List ℕ). call_asked w c.in-Some.told.now.request) (sym c.args.self.now.whole_is) ∙ c.is.ensures.same c.if-is.true)
