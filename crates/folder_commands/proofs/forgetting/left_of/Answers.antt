-- What was written to memory is what the writer holds.
use Rattle.std.specs.Prelude.{ℕ, not, ◌==◌}
use Rattle.std.specs.Global.{Vec}
use Rattle.std.proofs.Common.{ap, sym, ◌∙◌}
use Rattle.folder_commands.proofs.Written.{written_part}
use Rattle.folder_commands.proofs.forgetting.left_of.Goals as goal

pub returns-in-Ok-clause-left : goal.returns-in-Ok-clause-left
returns-in-Ok-clause-left c =
    let made = c.in-Ok.ensures.made in
    let empty = ap (λ (w : Vec ℕ × ℕ). w.0.items) c.new-writer.ensures ∙ c.new.ensures.items in
    let whole = sym (ap (λ (w : Vec ℕ). w.items) c.into_inner.ensures) in
    (made.0, made.1, written_part (not (c.in-Ok.done.batches == 0)) _ _ _ made.0 empty whole made.2)
