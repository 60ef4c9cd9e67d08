-- What the query wrote is what is given.
use Rattle.std.specs.Prelude.{ℕ, List}
use Rattle.std.specs.Global.{Vec}
use Rattle.std.proofs.Common.{ap, Bor, ◌∙◌}
use Rattle.lanes_c.specs.Rooms.{given_by}
use Rattle.lanes_c.proofs.Givings.{queried_given}
use Rattle.lanes_c.proofs.reading.answered.Goals as goal

pub returns : goal.returns
returns c =
    queried_given (given_by c.taken.result) c.query_file-done.result c.args.sql.now _ _ c.args.file.now _ c.taken.ensures
    (ap (λ (w : Vec ℕ × ℕ). w.0.items) c.new-writer.ensures ∙ c.new.ensures.items) (ap (λ (w : Bor (List ℕ) × ℕ). w.0.now) c.new-2.ensures) c.query_file-done.ensures.told
