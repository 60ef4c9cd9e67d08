use Rattle.std.proofs.Common.{sym, subst, Option}
use Rattle.folder_turns.specs.Run.{AsksFor}
use Rattle.folder_turns.specs.declared.replay.Stop.{Stop}
use Rattle.folder_turns.proofs.Runs.{made_all}
use Rattle.folder_turns.proofs.Steps.{stops_at}
use Rattle.folder_turns.proofs.replay.Replay.into_step.Goals as goal

pub returns-in-Asks-clause-asks : goal.returns-in-Asks-clause-asks
returns-in-Asks-clause-asks g c =
    stops_at g.S.Script.whole c.args.self.told.now g.S.Script.before g.S.Script.calls c.args.self.at c.args.self.stop c.in-Some.stop c.in-Asks.request c.in-Some.is c.in-Asks.is
    (made_all c.args.self.whole.now g.S.Script.whole c.args.self.told.now g.S.Script.before g.S.Script.calls c.args.self.at c.args.self.whole_is c.args.self.told_is
    (c.args.self.asks c.in-Asks.request (subst (λ (s : Option Stop). AsksFor s c.in-Asks.request) (sym c.in-Some.is) c.in-Asks.is)))
