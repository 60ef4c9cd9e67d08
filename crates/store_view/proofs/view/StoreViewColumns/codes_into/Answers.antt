-- The codes of the vector are those of the column, and a row past those that it covers has no value.
use Rattle.std.proofs.Common.{ℕ, cond, nat_lt, get_or, ap, subst, ◌∙◌}
use Rattle.store_view.specs.View.{ViewForm}
use Rattle.store_view.proofs.view.StoreViewColumns.codes_into.Goals as goal
use Rattle.query_eval.specs.Coded.{AreCodes}
use Rattle.query_eval.specs.Vector.{vector_at}
use Rattle.store_view.proofs.KernelLemmas.{view_codes}

pub returns-clause-codes : goal.returns-clause-codes
returns-clause-codes c =
    let s = c.self.inside.store.now.replica.state in
    subst (λ (v : ViewForm). AreCodes (vector_at v.state c.args.id.batch c.args.id.vector) c.args.column c.in_ok-count.count c.put_past.new.codes c.vector_codes_into.new.keys) c.self.view_is
    (view_codes c.vector_in-found.result.now (vector_at s c.args.id.batch c.args.id.vector) c.args.column c.in_ok-count.count c.vector_codes_into.new.codes c.put_past.new.codes c.vector_codes_into.new.keys c.vector_in-found.ensures c.in_ok-count.ensures.codes
    (λ n l. c.put_past.ensures n l ∙ ap (λ (k : ℕ). cond (nat_lt n k) (get_or c.vector_codes_into.new.codes n 0) c.in_ok-count.count) c.rows.ensures.value))
