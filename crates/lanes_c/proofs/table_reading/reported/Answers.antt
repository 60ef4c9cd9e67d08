-- The report that was written is what is given.
use Rattle.std.specs.Prelude.{ℕ}
use Rattle.std.specs.Global.{Vec}
use Rattle.std.proofs.Common.{ap, ◌∙◌}
use Rattle.lanes_c.specs.Rooms.{given_by}
use Rattle.lanes_c.proofs.TableReadings.{report_given}
use Rattle.lanes_c.proofs.table_reading.reported.Goals as goal

pub returns : goal.returns
returns c =
    report_given (given_by c.taken.result) c.inspect-done.result c.args.form c.args.file.now _ _ c.taken.ensures (ap (λ (w : Vec ℕ × ℕ). w.0.items) c.new-writer.ensures ∙ c.new.ensures.items) c.inspect-done.ensures.text c.inspect-done.ensures.only
