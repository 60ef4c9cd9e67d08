-- What is enough of the parts before and of this one is enough of all of them.
use Rattle.std.specs.Prelude.{ℕ}
use Rattle.replica_store.specs.Replica.{Replica}
use Rattle.folder_parts.proofs.EnoughOfParts.{joined_part, opened_compared, unjoined_part}
use Rattle.folder_parts.proofs.PartRefusals.{unjoined_listed}
use Rattle.folder_parts.proofs.skimming.Skim.with_part.Goals as goal

pub fault_of-requires : goal.fault_of-requires
fault_of-requires c = unjoined_listed (λ (s : Replica × ℕ). (tt, s.0)) c.args.self.0 c.in_ok-part.part.store.replica c.in-Err.refusal c.in-Err.ensures.value

pub returns-in-Ok-clause-skimmed : goal.returns-in-Ok-clause-skimmed
returns-in-Ok-clause-skimmed c = λ held r new whole opens merges enough.
    joined_part c.args.names.first c.args.names.count c.args.self.0 held c.in_ok-part.part.store.replica r new c.in-Ok.next.0
    c.args.self.1 c.in_ok-part.part.batches c.in-Ok.next.1 enough (c.in_ok-part.ensures.skimmed r whole opens) merges c.in-Ok.ensures.value c.in-Ok.ensures.count

pub returns-in-Err-clause-skimmed : goal.returns-in-Err-clause-skimmed
returns-in-Err-clause-skimmed c = λ held r new whole opens merges enough.
    c.fault_of.ensures.unread
    (unjoined_part (λ (s : Replica × ℕ). (tt, s.0)) c.args.names.first c.args.names.count c.args.self.0 held c.in_ok-part.part.store.replica r new
    c.args.self.1 c.in_ok-part.part.batches c.in-Err.refusal enough (c.in_ok-part.ensures.skimmed r whole opens) merges c.in-Err.ensures.value) whole

pub returns-in-Ok-clause-compared : goal.returns-in-Ok-clause-compared
returns-in-Ok-clause-compared c = opened_compared (record { name = c.args.name.now; bytes = c.args.bytes.now }) c.in_ok-part.part.store.replica c.in_ok-part.ensures.opened
