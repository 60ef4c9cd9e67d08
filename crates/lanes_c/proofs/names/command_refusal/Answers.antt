-- The refusal of the fault of which the number and the place were told.
use Rattle.std.proofs.Common.{ap, Option, Some}
use Rattle.table_model.specs.declared.refusal.Refusal.{Refusal}
use Rattle.refusal_sentences.specs.declared.command_refusal.CommandRefusal.TheVariants.{Named}
use Rattle.lanes_c.specs.Names.{or_own, own_refusal_at}
use Rattle.lanes_c.proofs.SaidAgain.{says_again}
use Rattle.lanes_c.proofs.names.command_refusal.Goals as goal

pub returns-in-Some-clause-again : goal.returns-in-Some-clause-again
returns-in-Some-clause-again c =
    says_again c.args.number c.args.place (Some (Named c.in-Some.refusal)) (ap (λ (found : Option Refusal). or_own found (own_refusal_at c.args.number c.args.place)) c.in-Some.ensures.same)
