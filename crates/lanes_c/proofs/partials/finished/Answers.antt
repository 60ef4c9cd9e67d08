-- Why a partial answer is not finished is told to C.
use Rattle.std.specs.Prelude.{ℕ, List, Ok}
use Rattle.std.specs.Global.{Vec}
use Rattle.std.proofs.Common.{ap, sym, subst, ◌∙◌, Bor, Err}
use Rattle.std.proofs.lemmas.Result.{err_from_is_err_and}
use Rattle.lanes_c.proofs.PartialAnswerGivings.{finished_given, not_finished}
use Rattle.lanes_c.specs.PartialAnswers.{Finishes}
use Rattle.lanes_c.proofs.partials.finished.Goals as goal

pub returns : goal.returns
returns c =
    let R : List ℕ → Type 0 = λ t. Finishes (Ok t) c.args.format c.args.partial.now in
    subst R (sym (ap (λ (v : Vec ℕ). v.items) c.into_inner.ensures))
    (finished_given c.args.format c.in_ok-write_finished_answer.field-0 c.args.partial.now _ _ _ (ap (λ (w : Bor (List ℕ) × ℕ). w.0.now) c.new-2.ensures)
    (ap (λ (w : Vec ℕ × ℕ). w.0.items) c.new-writer.ensures ∙ c.new.ensures.items) c.in_ok-write_finished_answer.ensures.told)

pub returns-in_err-write_finished_answer : goal.returns-in_err-write_finished_answer
returns-in_err-write_finished_answer c =
    let p = err_from_is_err_and c.from_residual.result c.from_residual.ensures.1 in
    rw (p.1, p.2) (not_finished c.args.format c.in_err-write_finished_answer.field-0.0 c.args.partial.now _ _ _ (ap (λ (w : Bor (List ℕ) × ℕ). w.0.now) c.new-2.ensures) c.in_err-write_finished_answer.ensures.told)
