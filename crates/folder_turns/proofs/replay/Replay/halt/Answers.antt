-- What has turned away goes on.
use Rattle.std.proofs.Common.{sym, subst, Option}
use Rattle.folder_turns.specs.Calls.{wanted_of}
use Rattle.folder_turns.specs.Run.{AsksFor}
use Rattle.folder_turns.specs.declared.replay.Stop.{Stop}
use Rattle.folder_turns.proofs.Straying.{noted_more}
use Rattle.folder_turns.proofs.replay.Replay.halt.Goals as goal

pub invariant_of-self-clause-asks : goal.invariant_of-self-clause-asks
invariant_of-self-clause-asks g c = λ request asks. c.args.self.now.asks request (subst (λ (s : Option Stop). AsksFor s request) (sym c.in-Some.is) asks)

pub invariant_of-self-clause-strays : goal.invariant_of-self-clause-strays
invariant_of-self-clause-strays g c =
    noted_more g.S.Script.whole c.args.self.now.told.now g.S.Script.before c.args.self.now.at c.args.self.now.stop c.in-Some.stop _ (wanted_of c.args.wanted) c.in-Some.is c.note_failed.ensures c.args.self.now.strays
