-- A refusal of the text, and one of its names, is that of the query's partial answer.
use Rattle.std.proofs.Common.{◌≡◌, inl, inr, Result, Ok, sym, ap, ◌∙◌, subst}
use Rattle.std.proofs.lemmas.Result.{err_from_is_err_and}
use Rattle.table_model.specs.Query.{QueryShape}
use Rattle.table_model.specs.Reading.{◌>>=◌}
use Rattle.table_model.specs.Table.{Table}
use Rattle.table_model.specs.declared.refusal.Refusal.{Refusal}
use Rattle.query_parser.specs.Resolve.{resolved}
use Rattle.partial_answers.specs.Groups.{partial_answer_in}
use Rattle.partial_answers.specs.PartialAnswer.{PartialAnswer, partial_answer_of}
use Rattle.partial_answers.specs.Shape.{HaveShape}
use Rattle.store_view.specs.View.{ViewForm}
use Rattle.store_view.proofs.QueryRefusals.{IsRefusedAsQuery, found_listed, resolved_listed}
use Rattle.partial_commands.specs.StorePartialAnswer.{PartialAnswerMeaning, meaning_with, query_partial_answer}
use Rattle.partial_commands.proofs.StorePartialAnswers.{made, memory_listed, one_query}
use Rattle.partial_commands.proofs.store_partial_answer.partial_answer_of_store.Goals as goal

pub returns-in_err-query-clause-read : goal.returns-in_err-query-clause-read
unfolding query_partial_answer
returns-in_err-query-clause-read c =
    let p = err_from_is_err_and c.from_residual.result c.from_residual.ensures.1 in
    let table = c.args.store.now.replica.schema in
    let state = c.args.store.now.replica.state in
    let after : Result QueryShape Refusal → Result PartialAnswerMeaning Refusal = λ x. x >>= λ query. resolved table query >>= λ done. Ok (meaning_with table c.args.sql.now (partial_answer_of table query state) state) in
    rw (p.1, p.2) (elim c.in_err-query.ensures.reads [
      | inl is ↦ inl (ap after is)
      | inr lacks ↦ inr lacks
    ])

pub returns-in_err-query-clause-refused : goal.returns-in_err-query-clause-refused
returns-in_err-query-clause-refused c =
    let p = err_from_is_err_and c.from_residual.result c.from_residual.ensures.1 in
    rw (p.1, p.2) (found_listed c.args.sql.now c.in_err-query.field-0.0 c.in_err-query.ensures.first)

pub returns-in_err-resolve-clause-read : goal.returns-in_err-resolve-clause-read
unfolding query_partial_answer
returns-in_err-resolve-clause-read c =
    let p = err_from_is_err_and c.from_residual-in_err-resolve.result c.from_residual-in_err-resolve.ensures.1 in
    let table = c.args.store.now.replica.schema in
    let state = c.args.store.now.replica.state in
    let query : QueryShape = c.in_ok-query.query in
    let given : Result PartialAnswerMeaning Refusal = Ok (meaning_with table c.args.sql.now (partial_answer_of table query state) state) in
    let after : Result QueryShape Refusal → Result PartialAnswerMeaning Refusal = λ x. x >>= λ q. resolved table q >>= λ done. Ok (meaning_with table c.args.sql.now (partial_answer_of table q state) state) in
    rw (p.1, p.2) (inl (
    ap after c.in_ok-query.ensures.reads
    ∙ ap (λ (t : Table). resolved t query >>= λ done. given) (sym c.schema.ensures)
    ∙ ap (λ (r : Result (Unit {0}) Refusal). r >>= λ done. given) (sym c.in_err-resolve.ensures.resolved)))

pub returns-in_err-resolve-clause-refused : goal.returns-in_err-resolve-clause-refused
returns-in_err-resolve-clause-refused c =
    let p = err_from_is_err_and c.from_residual-in_err-resolve.result c.from_residual-in_err-resolve.ensures.1 in
    rw (p.1, p.2) (subst IsRefusedAsQuery (sym c.in_err-resolve.ensures.resolved) (resolved_listed c.schema.result.now c.in_ok-query.query))

pub returns-clause-read : goal.returns-clause-read
unfolding query_partial_answer
returns-clause-read c =
    let table = c.args.store.now.replica.schema in
    let state = c.args.store.now.replica.state in
    let query : QueryShape = c.in_ok-query.query in
    let text = c.args.sql.now in
    let given : Result PartialAnswerMeaning Refusal = Ok (meaning_with table text (partial_answer_of table query state) state) in
    let after : Result QueryShape Refusal → Result PartialAnswerMeaning Refusal = λ x. x >>= λ q. resolved table q >>= λ done. Ok (meaning_with table text (partial_answer_of table q state) state) in
    let groups : partial_answer_in c.in_ok-groups.groups ≡ partial_answer_of table query state = c.in_ok-groups.ensures.value ∙ ap (λ (v : ViewForm). partial_answer_of v.table query v.state) c.with_hash_key-view.ensures in
    let read : query_partial_answer text table state ≡ Ok (meaning_with table text (partial_answer_in c.in_ok-groups.groups) state) =
    ap after c.in_ok-query.ensures.reads
    ∙ ap (λ (t : Table). resolved t query >>= λ done. given) (sym c.schema.ensures)
    ∙ ap (λ (r : Result (Unit {0}) Refusal). r >>= λ done. given) (sym c.in_ok-resolve.ensures.resolved)
    ∙ ap (λ (partial : PartialAnswer). Ok (meaning_with table text partial state)) (sym groups) in
    made c.partial_answer_with.result (meaning_with table text (partial_answer_in c.in_ok-groups.groups) state) (query_partial_answer text table state) read c.partial_answer_with.ensures.made c.partial_answer_with.ensures.refused

pub returns-clause-refused : goal.returns-clause-refused
returns-clause-refused c = memory_listed c.partial_answer_with.result c.partial_answer_with.ensures.refused

pub returns-clause-shape : goal.returns-clause-shape
returns-clause-shape c = c.partial_answer_with.ensures.shape (λ query asked.
    let table = c.args.store.now.replica.schema in
    let mine : QueryShape = c.in_ok-query.query in
    let here : HaveShape table mine c.in_ok-groups.groups = subst (λ (v : ViewForm). HaveShape v.table mine c.in_ok-groups.groups) c.with_hash_key-view.ensures c.in_ok-groups.ensures.shape in
    subst (λ (q : QueryShape). HaveShape table q c.in_ok-groups.groups) (one_query _ mine query c.in_ok-query.ensures.reads asked) here)
