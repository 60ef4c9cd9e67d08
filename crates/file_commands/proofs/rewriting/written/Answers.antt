-- What was written to memory is what the writer holds.
use Rattle.std.specs.Prelude.{ℕ, List}
use Rattle.std.specs.Global.{Vec}
use Rattle.std.proofs.Common.{ap, sym, ◌∙◌}
use Rattle.file_commands.proofs.Rewrites.{puts_at}
use Rattle.file_commands.proofs.rewriting.written.Goals as goal

pub returns-in-Ok : goal.returns-in-Ok
returns-in-Ok c =
    puts_at c.args.is_changed _ _ _ c.args.store.now.replica (ap (λ (w : Vec ℕ × ℕ). w.0.items) c.new-writer.ensures ∙ c.new.ensures.items) (sym (ap (λ (w : Vec ℕ). w.items) c.into_inner.ensures)) c.in-Ok.ensures.put
