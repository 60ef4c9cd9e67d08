-- A refusal of the text, and one of its names, is that of the rows' names.
use Rattle.std.proofs.Common.{IsTrue, List, inl, inr, Ok, Err, Result, sym, ap, ◌∙◌, subst}
use Rattle.std.specs.List.{All}
use Rattle.std.proofs.lemmas.Result.{err_from_is_err_and}
use Rattle.table_model.specs.Formula.{Formula}
use Rattle.table_model.specs.Meaning.{names_where}
use Rattle.table_model.specs.Name.{is_proper_name}
use Rattle.table_model.specs.Reading.{◌>>=◌}
use Rattle.table_model.specs.Table.{Table}
use Rattle.table_model.specs.declared.names.RowName.{RowName}
use Rattle.table_model.specs.declared.refusal.Refusal.{Refusal}
use Rattle.query_parser.specs.Resolve.{resolved_condition}
use Rattle.store_view.specs.View.{ViewForm}
use Rattle.store_view.specs.Asked.{condition_names}
use Rattle.store_view.proofs.ProperNames.{names_proper}
use Rattle.store_view.proofs.QueryRefusals.{condition_found, condition_resolved}
use Rattle.store_view.proofs.asking.names_where.Goals as goal

pub returns-in_err-condition-clause-read : goal.returns-in_err-condition-clause-read
unfolding condition_names
returns-in_err-condition-clause-read c =
    let p = err_from_is_err_and c.from_residual.result c.from_residual.ensures.1 in
    let table = c.args.store.now.replica.schema in
    let state = c.args.store.now.replica.state in
    rw (p.1, p.2) (elim c.in_err-condition.ensures.reads [
      | inl is ↦ inl (ap (λ (r : Result Formula Refusal). r >>= λ f. resolved_condition table f >>= λ done. Ok (names_where table f state)) is)
      | inr lacks ↦ inr lacks
    ])

pub returns-in_err-resolve_condition-clause-read : goal.returns-in_err-resolve_condition-clause-read
unfolding condition_names
returns-in_err-resolve_condition-clause-read c =
    let p = err_from_is_err_and c.from_residual-in_err-resolve_condition.result c.from_residual-in_err-resolve_condition.ensures.1 in
    let table = c.args.store.now.replica.schema in
    let state = c.args.store.now.replica.state in
    let f : Formula = c.in_ok-condition.condition in
    rw (p.1, p.2) (inl (
    ap (λ (r : Result Formula Refusal). r >>= λ f. resolved_condition table f >>= λ done. Ok (names_where table f state)) c.in_ok-condition.ensures.reads
    ∙ ap (λ (t : Table). resolved_condition t f >>= λ done. Ok (names_where table f state)) (sym c.schema.ensures)
    ∙ ap (λ (r : Result (Unit {0}) Refusal). r >>= λ done. Ok (names_where table f state)) (sym c.in_err-resolve_condition.ensures.resolved)))

pub returns-clause-read : goal.returns-clause-read
unfolding condition_names
returns-clause-read c =
    let table = c.args.store.now.replica.schema in
    let state = c.args.store.now.replica.state in
    let f : Formula = c.in_ok-condition.condition in
    ap (λ (r : Result Formula Refusal). r >>= λ f. resolved_condition table f >>= λ done. Ok (names_where table f state)) c.in_ok-condition.ensures.reads
    ∙ ap (λ (t : Table). resolved_condition t f >>= λ done. Ok (names_where table f state)) (sym c.schema.ensures)
    ∙ ap (λ (r : Result (Unit {0}) Refusal). r >>= λ done. Ok (names_where table f state)) (sym c.in_ok-resolve_condition.ensures.resolved)
    ∙ sym (ap Ok (c.in_ok-names.ensures.value ∙ ap (λ (v : ViewForm). names_where v.table f v.state) c.new.ensures))

pub returns-clause-proper : goal.returns-clause-proper
returns-clause-proper c =
    let table = c.args.store.now.replica.schema in
    let state = c.args.store.now.replica.state in
    let f : Formula = c.in_ok-condition.condition in
    subst (λ (l : List RowName). All (λ (row : RowName). IsTrue (is_proper_name row.batch)) l)
    (sym (c.in_ok-names.ensures.value ∙ ap (λ (v : ViewForm). names_where v.table f v.state) c.new.ensures))
    (names_proper table f state c.keeps_its_limits.ensures.within)

pub returns-in_err-condition-clause-refused : goal.returns-in_err-condition-clause-refused
returns-in_err-condition-clause-refused c =
    let p = err_from_is_err_and c.from_residual.result c.from_residual.ensures.1 in
    rw (p.1, p.2) (condition_found c.args.text.now c.in_err-condition.field-0.0 c.in_err-condition.ensures.first)

pub returns-in_err-resolve_condition-clause-refused : goal.returns-in_err-resolve_condition-clause-refused
returns-in_err-resolve_condition-clause-refused c =
    let p = err_from_is_err_and c.from_residual-in_err-resolve_condition.result c.from_residual-in_err-resolve_condition.ensures.1 in
    rw (p.1, p.2) (condition_resolved c.schema.result.now c.in_ok-condition.condition (Err c.in_err-resolve_condition.field-0.0) c.in_err-resolve_condition.field-0.0 c.in_err-resolve_condition.ensures.judged (λ i. Err c.in_err-resolve_condition.field-0.0))
