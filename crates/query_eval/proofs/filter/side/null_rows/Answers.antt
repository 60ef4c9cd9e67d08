-- The rows of the column's null mask, and the others.
use Rattle.std.proofs.Common.{ℕ, Bool, refl, subst, sym}
use Rattle.table_model.specs.Answer.{whole}
use Rattle.table_model.specs.Condition.{is_null}
use Rattle.table_model.specs.Truth.{truth_of}
use Rattle.query_eval.specs.Side.{side_at}
use Rattle.query_eval.specs.Vector.{vector_at, cell_at}
use Rattle.query_eval.specs.Where.{IsPair}
use Rattle.query_eval.specs.declared.filter.side.Side.{Side}
use Rattle.query_eval.proofs.PairLemmas.{masked}
use Rattle.query_eval.proofs.filter.side.null_rows.Goals as goal

pub returns-in-Column : goal.returns-in-Column
returns-in-Column g c =
    let v = vector_at (g.C.Columns.seen c.args.columns.now).state c.args.id.batch c.args.id.vector in
    let test : ℕ → Bool = λ n. is_null (whole (cell_at v c.in-Column.column n)) in
    let held = masked c.args.mask.now _ _ _ test (record { yes = c.and-yes.result; no = c.and_not-no.result }) c.nulls-nulls.ensures c.and-yes.ensures c.and_not-no.ensures refl refl in
    subst (λ (side : Side). IsPair c.args.mask.now (λ n. truth_of (is_null (whole (side_at v side n)))) (record { yes = c.and-yes.result; no = c.and_not-no.result })) (sym c.in-Column.is) held
