-- The first column that has the name, where one has.
use Rattle.std.proofs.Common.{◌≡◌, ℕ, Bool, true, false, cond, nat_lt, List, length, Option, Some, None, refl, sym, ap, ◌∙◌, subst}
use Rattle.std.specs.List.{position}
use Rattle.std.specs.Option.{IfSome}
use Rattle.table_model.specs.Identifier.{same_text}
use Rattle.table_model.specs.Meaning.{place_of}
use Rattle.table_model.specs.Table.{ColumnShape}
use Rattle.query_eval.proofs.filter.column_places.place_of.Goals as goal

chosen : (b : Bool) (place : ℕ) → IfSome (cond b (Some place) None) (λ i. i ≡ place)
chosen true place = refl
chosen false place = tt

pub returns-clause-some : goal.returns-clause-some
returns-clause-some c =
    let name = c.args.column.now.name in
    let at : List ColumnShape → Option ℕ = λ columns. position (λ column. same_text column.name name) columns in
    let e = c.column_at.ensures ∙ ap (λ n. position (λ column. same_text column.name n) c.column_list.result.now) c.as_str.ensures ∙ ap at c.column_list.ensures.list in
    subst (λ (o : Option ℕ). IfSome o (λ place. place ≡ place_of c.args.schema.now.columns name)) (sym e) (chosen (nat_lt (place_of c.args.schema.now.columns name) (length c.args.schema.now.columns)) (place_of c.args.schema.now.columns name))
