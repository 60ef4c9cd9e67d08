-- What was read is told; or its bytes are refused.
use Rattle.std.specs.Prelude.{ℕ, List}
use Rattle.std.proofs.Common.{ap, Bor, Err}
use Rattle.std.proofs.lemmas.Result.{err_from_is_err_and}
use Rattle.lanes_c.specs.Rooms.{given_by}
use Rattle.lanes_c.proofs.CoverageGivings.{partial_inspected, partial_unread}
use Rattle.lanes_c.proofs.coverage.partial_inspected.Goals as goal

pub returns-in_err-partial : goal.returns-in_err-partial
returns-in_err-partial c =
    let p = err_from_is_err_and c.from_residual.result c.from_residual.ensures.1 in
    rw (p.1, p.2) (partial_unread c.in_err-partial.field-0.0 c.args.partial.now _ (ap (λ (w : Bor (List ℕ) × ℕ). w.0.now) c.new.ensures) c.in_err-partial.ensures.read)

pub returns : goal.returns
returns c =
    partial_inspected (given_by c.covered.result) c.args.form c.in_ok-partial.partial c.args.partial.now _ (ap (λ (w : Bor (List ℕ) × ℕ). w.0.now) c.new.ensures) c.in_ok-partial.ensures.read c.covered.ensures
