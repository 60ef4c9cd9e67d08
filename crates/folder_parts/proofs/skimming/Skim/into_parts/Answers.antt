-- What was read of all parts answers the loads.
use Rattle.std.specs.Prelude.{ℕ}
use Rattle.std.proofs.Common.{sym, ap, subst}
use Rattle.replica_store.specs.Replica.{Replica}
use Rattle.replica_store.specs.Segments.{StoreForm}
use Rattle.replica_store.proofs.Limits.{same_Ok}
use Rattle.folder_parts.specs.Skims.{IsEnough}
use Rattle.folder_parts.proofs.SkimmedSoFar.{parts_answer}
use Rattle.folder_parts.proofs.skimming.Skim.into_parts.Goals as goal

pub returns-in-Ok-clause-answers : goal.returns-in-Ok-clause-answers
returns-in-Ok-clause-answers c = λ first count whole enough room.
    parts_answer first count c.self.inside.joined.replica c.in-Ok.held.replica whole c.self.inside.batches
    (subst (λ (s : Replica × ℕ). IsEnough first count s.0 s.1 whole) (sym c.self.view_is) enough)
    (ap (λ (s : StoreForm). s.replica) (same_Ok c.self.inside.joined c.in-Ok.held c.in-Ok.ensures)) room
