-- What is given of what is open is given of the file.
use Rattle.std.specs.Prelude.{ℕ, List}
use Rattle.std.proofs.Common.{ap, Bor}
use Rattle.lanes_c.specs.Rooms.{given_by}
use Rattle.lanes_c.proofs.Givings.{offered_given}
use Rattle.lanes_c.proofs.messages.offered.Goals as goal

pub returns : goal.returns
returns c =
    offered_given (given_by c.reply_of.result) c.in_ok-open.open c.in_ok-summary.summary _ c.args.summary.now c.args.file.now (ap (λ (w : Bor (List ℕ) × ℕ). w.0.now) c.new.ensures) c.in_ok-summary.ensures.read c.in_ok-open.ensures.held c.reply_of.ensures
