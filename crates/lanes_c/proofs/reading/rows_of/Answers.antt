-- What the dump wrote is what is given.
use Rattle.std.specs.Prelude.{ℕ}
use Rattle.std.specs.Global.{Vec}
use Rattle.std.proofs.Common.{ap, ◌∙◌}
use Rattle.replica_reports.specs.Dumps.{dumping}
use Rattle.lanes_c.specs.Rooms.{given_by}
use Rattle.lanes_c.proofs.Givings.{lines_given}
use Rattle.lanes_c.proofs.reading.rows_of.Goals as goal

pub returns : goal.returns
returns c =
    lines_given (given_by c.taken.result) c.dump-done.result _ _ _ _ (dumping c.args.has_names c.args.file.now.replica) c.taken.ensures
    (ap (λ (w : Vec ℕ × ℕ). w.0.items) c.new-writer.ensures ∙ c.new.ensures.items) c.dump-done.ensures.text
