-- What is given is the answer of the partial answer that was read, or why there is none.
use Rattle.std.specs.Prelude.{ℕ, List}
use Rattle.std.proofs.Common.{ap, Bor}
use Rattle.std.proofs.lemmas.Result.{err_from_is_err_and}
use Rattle.lanes_c.specs.AnswerColumns.{answer_by}
use Rattle.lanes_c.proofs.AnswerGivings.{answer_given, unread_given}
use Rattle.lanes_c.proofs.answer_columns.finished_answer.Goals as goal

pub returns : goal.returns
returns c =
    answer_given (answer_by c.answer_of_partial.result) c.in_ok-partial.partial c.args.partial.now _ (ap (λ (w : Bor (List ℕ) × ℕ). w.0.now) c.new.ensures) c.in_ok-partial.ensures.read c.answer_of_partial.ensures

pub returns-in_err-partial : goal.returns-in_err-partial
returns-in_err-partial c =
    let p = err_from_is_err_and c.from_residual.result c.from_residual.ensures.1 in
    rw (p.1, p.2) (unread_given _ c.args.partial.now _ (ap (λ (w : Bor (List ℕ) × ℕ). w.0.now) c.new.ensures) c.in_err-partial.ensures.read)
