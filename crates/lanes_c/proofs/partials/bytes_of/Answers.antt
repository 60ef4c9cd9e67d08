-- The partial answer that was written is what is given.
use Rattle.std.specs.Prelude.{ℕ}
use Rattle.std.specs.Global.{Vec}
use Rattle.std.proofs.Common.{ap, ◌∙◌}
use Rattle.partial_file.specs.PartialAnswerBytes.{partial_answer_bytes}
use Rattle.lanes_c.specs.Rooms.{given_by}
use Rattle.lanes_c.proofs.PartialAnswerGivings.{bytes_given}
use Rattle.lanes_c.proofs.partials.bytes_of.Goals as goal

pub returns : goal.returns
returns c =
    bytes_given (given_by c.taken.result) c.write_partial_answer-done.result _ _ _ _ (partial_answer_bytes c.args.partial.now) c.taken.ensures
    (ap (λ (w : Vec ℕ × ℕ). w.0.items) c.new-writer.ensures ∙ c.new.ensures.items) c.write_partial_answer-done.ensures.written
