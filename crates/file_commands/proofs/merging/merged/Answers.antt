use Rattle.std.specs.Prelude.{ℕ, List}
use Rattle.std.specs.Global.{Vec}
use Rattle.std.proofs.Common.{ap, sym, refl, ◌∙◌}
use Rattle.file_commands.proofs.CrashProofs.{merged_written, merge_refused}
use Rattle.file_commands.proofs.merging.merged.Goals as goal

pub returns-in-Ok : goal.returns-in-Ok
returns-in-Ok g c = λ input inputs first others.
    merged_written _ _ _ input inputs (ap (λ (w : Vec ℕ × ℕ). w.0.items) c.new-writer.ensures ∙ c.new.ensures.items) (sym (ap (λ (w : Vec ℕ). w.items) c.into_inner.ensures)) (c.in-Ok.ensures.made input inputs first others)

pub returns-in-Err : goal.returns-in-Err
returns-in-Err g c = λ input inputs first others. rw (c.refusal_in_memory.ensures) (merge_refused _ _ _ input inputs (c.in-Err.ensures.made input inputs first others))
