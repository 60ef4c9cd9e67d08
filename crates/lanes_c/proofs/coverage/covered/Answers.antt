-- The text that was written is what is given.
use Rattle.std.specs.Prelude.{ℕ, Ok}
use Rattle.std.specs.Global.{Vec}
use Rattle.std.proofs.Common.{ap, ◌∙◌}
use Rattle.partial_commands.specs.Coverage.{partial_answer_coverage}
use Rattle.lanes_c.specs.Rooms.{given_by}
use Rattle.lanes_c.proofs.Givings.{text_given}
use Rattle.lanes_c.proofs.coverage.covered.Goals as goal

pub returns : goal.returns
returns c =
    text_given (given_by c.taken.result) c.inspect_partial_answer-done.result _ _ _ _ (Ok (partial_answer_coverage c.args.form c.args.partial.now)) c.taken.ensures
    (ap (λ (w : Vec ℕ × ℕ). w.0.items) c.new-writer.ensures ∙ c.new.ensures.items) c.inspect_partial_answer-done.ensures.text
