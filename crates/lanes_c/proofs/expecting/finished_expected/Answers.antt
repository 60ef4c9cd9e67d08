-- The partial answer was read, and the summaries, and it is finished; or one of these is refused.
use Rattle.std.specs.Prelude.{ℕ, List}
use Rattle.std.specs.Global.{Vec}
use Rattle.std.proofs.Common.{ap, sym, subst, inl, inr, ◌∙◌, Bor, Ok, Err}
use Rattle.std.proofs.lemmas.Result.{err_from_is_err_and}
use Rattle.lanes_c.specs.Expecting.{FinishesExpected, pieces}
use Rattle.lanes_c.proofs.CoverageGivings.{partial_unread}
use Rattle.lanes_c.proofs.Expectations.{expected_given, expected_refused, summaries_refused}
use Rattle.lanes_c.proofs.expecting.finished_expected.Goals as goal

pub returns-in_err-partial : goal.returns-in_err-partial
returns-in_err-partial c =
    let p = err_from_is_err_and c.from_residual.result c.from_residual.ensures.1 in
    rw (p.1, p.2) (inr (inl (partial_unread c.in_err-partial.field-0.0 c.args.partial.now _ (ap (λ (w : Bor (List ℕ) × ℕ). w.0.now) c.new.ensures) c.in_err-partial.ensures.read)))

pub returns-in_err-expected : goal.returns-in_err-expected
returns-in_err-expected c =
    let p = err_from_is_err_and c.from_residual-in_err-expected.result c.from_residual-in_err-expected.ensures.1 in
    rw (p.1, p.2) (summaries_refused c.in_err-expected.field-0.0 c.args.format c.in_ok-partial.partial c.args.partial.now _ (pieces c.args.lengths.now c.args.summaries.now) (ap (λ (w : Bor (List ℕ) × ℕ). w.0.now) c.new.ensures) c.in_ok-partial.ensures.read c.in_err-expected.ensures.refused)

pub returns-in_err-write_expected_answer : goal.returns-in_err-write_expected_answer
returns-in_err-write_expected_answer c =
    let p = err_from_is_err_and c.from_residual-in_err-write_expected_answer.result c.from_residual-in_err-write_expected_answer.ensures.1 in
    rw (p.1, p.2) (expected_refused c.args.format c.in_err-write_expected_answer.field-0.0 c.in_ok-partial.partial c.in_ok-expected.expected.items c.as_slice.result.now c.args.partial.now _ _ _ (pieces c.args.lengths.now c.args.summaries.now)
    (ap (λ (w : Bor (List ℕ) × ℕ). w.0.now) c.new.ensures) c.in_ok-partial.ensures.read c.in_ok-expected.ensures.read c.as_slice.ensures.value c.in_err-write_expected_answer.ensures.told)

pub returns : goal.returns
returns c =
    let R : List ℕ → Type 0 = λ t. FinishesExpected (Ok t) c.args.format c.args.partial.now (pieces c.args.lengths.now c.args.summaries.now) in
    subst R (sym (ap (λ (v : Vec ℕ). v.items) c.into_inner.ensures))
    (expected_given c.args.format c.in_ok-write_expected_answer.field-0 c.in_ok-partial.partial c.in_ok-expected.expected.items c.as_slice.result.now c.args.partial.now _ _ _ (pieces c.args.lengths.now c.args.summaries.now)
    (ap (λ (w : Bor (List ℕ) × ℕ). w.0.now) c.new.ensures) c.in_ok-partial.ensures.read c.in_ok-expected.ensures.read c.as_slice.ensures.value (ap (λ (w : Vec ℕ × ℕ). w.0.items) c.new-writer.ensures ∙ c.new-2.ensures.items) c.in_ok-write_expected_answer.ensures.told)
