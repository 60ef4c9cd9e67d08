-- Its deletions are enough, or it is opened.
use Rattle.std.proofs.Common.{inl, inr, subst}
use Rattle.std.specs.Prelude.{Option, Ok, IfSome}
use Rattle.folder_parts.specs.Skims.{HasNoneOf, SkimsDeletions}
use Rattle.folder_parts.specs.declared.skimmed_part.SkimmedPart.{SkimmedPart}
use Rattle.folder_parts.proofs.skimmed_part.skim_part.Goals as goal

pub returns-in-Some-clause-skimmed : goal.returns-in-Some-clause-skimmed
returns-in-Some-clause-skimmed c = λ r whole held.
    subst (λ (o : Option SkimmedPart). SkimsDeletions {X = SkimmedPart} (λ p. p.store.replica) (λ p. p.batches) (Ok o) c.args.names.first c.args.names.count r) c.in-Some.is (c.in_ok-part.ensures.skimmed r held)

pub returns-in-Some-clause-opened : goal.returns-in-Some-clause-opened
returns-in-Some-clause-opened c =
    inl (subst (λ (o : Option SkimmedPart). IfSome o (λ part. HasNoneOf c.args.names.first c.args.names.count c.args.bytes.now)) c.in-Some.is c.in_ok-part.ensures.none)

pub returns-clause-opened : goal.returns-clause-opened
returns-clause-opened c = inr c.in_ok-store.ensures.held
