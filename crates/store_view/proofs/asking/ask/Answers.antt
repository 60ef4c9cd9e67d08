-- A refusal of the text, and one of its names, is that of the query's answer.
use Rattle.std.proofs.Common.{inl, inr, Ok, sym, ap, ◌∙◌, subst}
use Rattle.std.proofs.lemmas.Result.{err_from_is_err_and}
use Rattle.table_model.specs.Meaning.{answer_of}
use Rattle.table_model.specs.Table.{Table}
use Rattle.query_parser.specs.Resolve.{resolved}
use Rattle.store_view.specs.View.{ViewForm}
use Rattle.store_view.specs.Asked.{query_answer, answer_where, unless_refused}
use Rattle.store_view.proofs.QueryRefusals.{IsRefusedAsQuery, found_listed, resolved_listed}
use Rattle.store_view.proofs.asking.ask.Goals as goal

pub returns-in_err-query-clause-read : goal.returns-in_err-query-clause-read
unfolding query_answer
returns-in_err-query-clause-read c =
    let p = err_from_is_err_and c.from_residual.result c.from_residual.ensures.1 in
    let table = c.args.store.now.replica.schema in
    let state = c.args.store.now.replica.state in
    rw (p.1, p.2) (elim c.in_err-query.ensures.reads [
      | inl is ↦ inl (ap (answer_where table state) is)
      | inr lacks ↦ inr lacks
    ])

pub returns-in_err-resolve-clause-read : goal.returns-in_err-resolve-clause-read
unfolding query_answer
returns-in_err-resolve-clause-read c =
    let p = err_from_is_err_and c.from_residual-in_err-resolve.result c.from_residual-in_err-resolve.ensures.1 in
    let table = c.args.store.now.replica.schema in
    let state = c.args.store.now.replica.state in
    rw (p.1, p.2) (inl (
    ap (answer_where table state) c.in_ok-query.ensures.reads
    ∙ ap (λ (t : Table). unless_refused (resolved t c.in_ok-query.query) (answer_of table c.in_ok-query.query state)) (sym c.schema.ensures)
    ∙ ap (λ r. unless_refused r (answer_of table c.in_ok-query.query state)) (sym c.in_err-resolve.ensures.resolved)))

pub returns-clause-read : goal.returns-clause-read
unfolding query_answer
returns-clause-read c =
    let table = c.args.store.now.replica.schema in
    let state = c.args.store.now.replica.state in
    let query = c.in_ok-query.query in
    ap (answer_where table state) c.in_ok-query.ensures.reads
    ∙ ap (λ (t : Table). unless_refused (resolved t query) (answer_of table query state)) (sym c.schema.ensures)
    ∙ ap (λ r. unless_refused r (answer_of table query state)) (sym c.in_ok-resolve.ensures.resolved)
    ∙ sym (ap Ok (c.in_ok-answer.ensures.value ∙ ap (λ (v : ViewForm). answer_of v.table query v.state) c.with_hash_key.ensures))

pub returns-in_err-query-clause-refused : goal.returns-in_err-query-clause-refused
returns-in_err-query-clause-refused c =
    let p = err_from_is_err_and c.from_residual.result c.from_residual.ensures.1 in
    rw (p.1, p.2) (found_listed c.args.text.now c.in_err-query.field-0.0 c.in_err-query.ensures.first)

pub returns-in_err-resolve-clause-refused : goal.returns-in_err-resolve-clause-refused
returns-in_err-resolve-clause-refused c =
    let p = err_from_is_err_and c.from_residual-in_err-resolve.result c.from_residual-in_err-resolve.ensures.1 in
    rw (p.1, p.2) (subst IsRefusedAsQuery (sym c.in_err-resolve.ensures.resolved) (resolved_listed c.schema.result.now c.in_ok-query.query))
