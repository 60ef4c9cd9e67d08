-- The file is opened, and what is dead is dropped of what it holds.
use Rattle.std.specs.Prelude.{◌==◌, not}
use Rattle.std.proofs.Common.{inl, inr, ⊎_elim, refl}
use Rattle.std.proofs.lemmas.Result.{err_from_is_err_and}
use Rattle.replica_store.specs.declared.forgotten.Forgotten.{Forgotten}
use Rattle.replica_changes.specs.Forgetting.{forgetting}
use Rattle.file_commands.proofs.Rewrites.{file_refused, held_refused, rewrites_changes}
use Rattle.file_commands.proofs.forgetting.forgotten.Goals as goal

pub returns-in_err-store : goal.returns-in_err-store
returns-in_err-store c =
    let p = err_from_is_err_and c.from_residual.result c.from_residual.ensures.1 in
    rw (p.1, p.2) (file_refused forgetting c.args.file.items c.in_err-store.field-0.0 c.in_err-store.ensures)

pub returns-in_err-answer : goal.returns-in_err-answer
returns-in_err-answer c =
    let p = err_from_is_err_and c.from_residual-in_err-answer.result c.from_residual-in_err-answer.ensures.1 in
    rw (p.1, p.2) (held_refused (λ (d : Forgotten). (d.batches, d.rows)) (λ (d : Forgotten). not (d.batches == 0)) forgetting c.args.file.items c.in_ok-store.store.replica c.in_err-answer.field-0.0 c.in_ok-store.ensures c.in_err-answer.ensures.makes)

pub returns-in_err-new : goal.returns-in_err-new
returns-in_err-new c =
    let p = err_from_is_err_and c.from_residual-in_err-new.result c.from_residual-in_err-new.ensures.1 in
    rw (p.1, p.2) (inl c.in_err-new.ensures)

pub returns : goal.returns
returns c =
    rewrites_changes (λ (d : Forgotten). (d.batches, d.rows)) (λ (d : Forgotten). not (d.batches == 0)) forgetting c.args.file.items c.in_ok-store.store.replica c.in_ok-answer.answer c.in_ok-new.new.items
    c.in_ok-store.ensures (c.forget_dead.new.store.replica, c.in_ok-answer.ensures.makes, c.in_ok-new.ensures)
