-- The text that was written is what is given.
use Rattle.std.specs.Prelude.{ℕ, Ok}
use Rattle.std.specs.Global.{Vec}
use Rattle.std.proofs.Common.{ap, ◌∙◌}
use Rattle.partial_commands.specs.Coverage.{summary_coverage}
use Rattle.lanes_c.specs.Rooms.{given_by}
use Rattle.lanes_c.proofs.Givings.{text_given}
use Rattle.lanes_c.proofs.coverage.named.Goals as goal

pub returns : goal.returns
returns c =
    text_given (given_by c.taken.result) c.inspect_summary-done.result _ _ _ _ (Ok (summary_coverage c.args.form c.args.summary.now)) c.taken.ensures
    (ap (λ (w : Vec ℕ × ℕ). w.0.items) c.new-writer.ensures ∙ c.new.ensures.items) c.inspect_summary-done.ensures.text
