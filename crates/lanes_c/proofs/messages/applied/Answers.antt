-- The offer is read, and applied to the file.
use Rattle.std.specs.Prelude.{ℕ, List}
use Rattle.std.proofs.Common.{ap, Bor}
use Rattle.lanes_c.specs.Rooms.{given_by}
use Rattle.lanes_c.proofs.Givings.{applied_given}
use Rattle.lanes_c.proofs.messages.applied.Goals as goal

pub returns : goal.returns
returns c =
    applied_given (given_by c.changed.result) c.in_ok-offer.offer c.in_ok-offers.offers.items c.args.offer.now _ c.args.file.now c.in_ok-offers.ensures.items (ap (λ (w : Bor (List ℕ) × ℕ). w.0.now) c.new.ensures) c.in_ok-offer.ensures.read
    c.changed.ensures
