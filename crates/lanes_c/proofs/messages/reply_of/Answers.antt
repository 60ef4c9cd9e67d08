-- What the offer wrote is what is given.
use Rattle.std.specs.Prelude.{ℕ}
use Rattle.std.specs.Global.{Vec}
use Rattle.std.proofs.Common.{ap, ◌∙◌}
use Rattle.lanes_c.specs.Rooms.{given_by}
use Rattle.lanes_c.proofs.Givings.{offer_given}
use Rattle.lanes_c.proofs.messages.reply_of.Goals as goal

pub returns : goal.returns
returns c =
    offer_given (given_by c.taken.result) c.offer-done.result c.args.file.now c.args.summary.now _ _ _ _ c.taken.ensures
    (ap (λ (w : Vec ℕ × ℕ). w.0.items) c.new-writer.ensures ∙ c.new.ensures.items) c.offer-done.ensures.text c.offer-done.ensures.again
