-- What was read is told; or its bytes are refused.
use Rattle.std.specs.Prelude.{ℕ, List}
use Rattle.std.proofs.Common.{ap, Bor, Err}
use Rattle.std.proofs.lemmas.Result.{err_from_is_err_and}
use Rattle.lanes_c.specs.Rooms.{given_by}
use Rattle.lanes_c.proofs.CoverageGivings.{summary_inspected, summary_unread}
use Rattle.lanes_c.proofs.coverage.summary_inspected.Goals as goal

pub returns-in_err-summary : goal.returns-in_err-summary
returns-in_err-summary c =
    let p = err_from_is_err_and c.from_residual.result c.from_residual.ensures.1 in
    rw (p.1, p.2) (summary_unread c.in_err-summary.field-0.0 c.args.form c.args.summary.now _ (ap (λ (w : Bor (List ℕ) × ℕ). w.0.now) c.new.ensures) c.in_err-summary.ensures.read)

pub returns : goal.returns
returns c =
    summary_inspected (given_by c.named.result) c.args.form c.in_ok-summary.summary c.args.summary.now _ (ap (λ (w : Bor (List ℕ) × ℕ). w.0.now) c.new.ensures) c.in_ok-summary.ensures.read c.named.ensures
