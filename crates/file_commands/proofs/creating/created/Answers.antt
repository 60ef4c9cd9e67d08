use Rattle.std.specs.Prelude.{ℕ, List}
use Rattle.std.specs.Global.{Vec}
use Rattle.std.proofs.Common.{ap, sym, ◌∙◌}
use Rattle.file_commands.proofs.CrashProofs.{empty_written}
use Rattle.file_commands.proofs.Whys.{unmade_at}
use Rattle.file_commands.proofs.creating.created.Goals as goal

pub returns-in-Ok : goal.returns-in-Ok
returns-in-Ok c =
    empty_written _ _ _ _ (ap (λ (w : Vec ℕ × ℕ). w.0.items) c.new-writer.ensures ∙ c.new.ensures.items) (sym (ap (λ (w : Vec ℕ). w.items) c.into_inner.ensures)) c.in-Ok.ensures.made

pub returns-in-Err : goal.returns-in-Err
returns-in-Err c = unmade_at _ c.in-Err.refusal _ _ _ c.refusal_in_memory.ensures c.in-Err.ensures.made
