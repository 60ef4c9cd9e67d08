-- The nulls, or the rows with the value.
use Rattle.std.proofs.Common.{rules, ◌≡◌, ℤ, get_or, pos, FitsSigned, w64, subst, sym, ◌∙◌}
use Rattle.std.specs.Ordering.{int_eq}
use Rattle.std.proofs.lemmas.Int.{to_z-of_z}
use Rattle.transpose_order.specs.Mask.{rows_of}
use Rattle.query_eval.proofs.SliceLemmas.{like_null, like_value}
use Rattle.query_eval.proofs.grouping.key_columns.KeyColumn.rows_like.Goals as goal

pub returns-then-null : goal.returns-then-null
returns-then-null c = λ n l. like_null c.args.self.now.nulls c.args.self.now.values c.args.row n (sym c.get-null.ensures ∙ c.if-null.true)

pub returns-else-null : goal.returns-else-null
returns-else-null c = λ n l.
    let values = c.args.self.now.values in
    let fits : FitsSigned w64 (get_or values c.args.row (pos 0)) = search rules in
    let same = subst (λ (z : ℤ). c.equal_rows.result ≡ rows_of (λ n. int_eq z (get_or values n (pos 0)))) (to_z-of_z w64 (get_or values c.args.row (pos 0)) fits) c.equal_rows.ensures in
    like_value c.args.self.now.nulls c.equal_rows.result c.and_not.result values c.args.row n l (sym c.get-null.ensures ∙ c.if-null.false) same c.and_not.ensures
