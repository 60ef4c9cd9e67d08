-- The values of the set, in order.
use Rattle.std.proofs.Common.{refl}
use Rattle.partial_answers.proofs.Tallies.{tally_is, same_members}
use Rattle.partial_answers.proofs.told.kept_of_tally.Goals as goal

pub returns-in_ok-of_seen-in-Distinct-clause-value : goal.returns-in_ok-of_seen-in-Distinct-clause-value
returns-in_ok-of_seen-in-Distinct-clause-value c = rw c.in-Distinct.is (tally_is _ _ refl refl refl refl (same_members _ _ (λ z. rw c.deref.ensures at (c.in_ok-of_seen-in-Distinct.ensures z))))
