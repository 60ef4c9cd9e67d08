-- What the summary wrote is what is given.
use Rattle.std.specs.Prelude.{ℕ}
use Rattle.std.specs.Global.{Vec}
use Rattle.std.proofs.Common.{ap, ◌∙◌}
use Rattle.replica_reports.specs.Held.{summarizing}
use Rattle.lanes_c.specs.Rooms.{given_by}
use Rattle.lanes_c.proofs.Givings.{text_given}
use Rattle.lanes_c.proofs.messages.message_of.Goals as goal

pub returns : goal.returns
returns c =
    text_given (given_by c.taken.result) c.summary-done.result _ _ _ _ (summarizing c.args.file.now.replica) c.taken.ensures
    (ap (λ (w : Vec ℕ × ℕ). w.0.items) c.new-writer.ensures ∙ c.new.ensures.items) c.summary-done.ensures.text
