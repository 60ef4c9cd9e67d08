-- What was read of both, or why they are not combined.
use Rattle.std.specs.Prelude.{ℕ, List}
use Rattle.std.proofs.Common.{ap, Bor, Err}
use Rattle.std.proofs.lemmas.Result.{err_from_is_err_and}
use Rattle.lanes_c.proofs.PartialAnswerGivings.{both_given, second_refused}
use Rattle.lanes_c.proofs.partials.both_partial_answers.Goals as goal

pub returns-in_err-combine_next-clause-fault : goal.returns-in_err-combine_next-clause-fault
returns-in_err-combine_next-clause-fault c =
    let p = err_from_is_err_and c.from_residual-in_err-combine_next.result c.from_residual-in_err-combine_next.ensures.1 in
    let now = λ (w : Bor (List ℕ) × ℕ). w.0.now in
    rw (p.1, p.2) (second_refused c.in_err-combine_next.field-0.0 c.in_ok-first.first c.args.one.now c.args.other.now _ _ (ap now c.new.ensures) (ap now c.new-2.ensures) c.in_ok-first.ensures.combined c.in_err-combine_next.ensures.refused)

pub returns-clause-both : goal.returns-clause-both
returns-clause-both c =
    let now = λ (w : Bor (List ℕ) × ℕ). w.0.now in
    both_given c.in_ok-first.first c.in_ok-combine_next.field-0 c.args.one.now c.args.other.now _ _ (ap now c.new.ensures) (ap now c.new-2.ensures) c.in_ok-first.ensures.combined c.in_ok-combine_next.ensures.combined
