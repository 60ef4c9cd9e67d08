-- GROUP BY has to name no column of WHERE, so a condition's names are judged by the columns alone.
use Rattle.std.proofs.Common.{◌≡◌, ℕ, Bool, true, false, cond, Option, Some, None, Err, List, [], ◌∷◌, ◌++◌, refl, ap, ◌∙◌}
use Rattle.table_model.specs.Meaning.{column_at}
use Rattle.table_model.specs.Formula.{Formula, says, in_parentheses, is_truth, negation, no_factor, both, no_term, either}
use Rattle.table_model.specs.Table.{Table, ColumnShape}
use Rattle.table_model.specs.declared.query.Operand.{Operand}
use Rattle.table_model.specs.declared.query.Operand.TheVariants.{Column, Literal, Function}
use Rattle.table_model.specs.declared.query.Predicate.{Predicate}
use Rattle.table_model.specs.declared.query.Predicate.TheVariants.{Compare, Between, In, IsNull}
use Rattle.table_model.specs.declared.query.SetFunction.{SetFunction}
use Rattle.table_model.specs.declared.query.SetFunction.TheVariants.{CountRows, Of}
use Rattle.query_parser.specs.Resolve.{Named, in_function, in_operand, in_predicate, in_formula, places, verdict, is_missing, is_grouped, lacks_group, is_ungrouped, IsLeastPlace, IsConditionJudged, resolved_condition}
use Rattle.query_parser.proofs.LeastPlaces.{least, least_from, places_least}

-- GROUP BY has to name none of them
abbrev AreFree : List Named → Type 0
AreFree [] = Unit {0}
AreFree (n ∷ ns) = (n.1 ≡ false) × AreFree ns

free_append : (ms ns : List Named) → AreFree ms → AreFree ns → AreFree (ms ++ ns)
free_append [] ns h k = k
free_append (m ∷ ms) ns h k = (h.0, free_append ms ns h.1 k)

free_function : (f : SetFunction) → AreFree (in_function f)
free_function CountRows = tt
free_function (Of f distinct column) = (refl, tt)

free_operand : (x : Operand) → AreFree (in_operand false x)
free_operand (Column column) = (refl, tt)
free_operand (Literal z) = tt
free_operand (Function f) = free_function f

free_predicate : (p : Predicate) → AreFree (in_predicate false p)
free_predicate (Compare left op right) = free_append (in_operand false left) (in_operand false right) (free_operand left) (free_operand right)
free_predicate (Between x negated low high) =
    free_append (in_operand false x ++ in_operand false low) (in_operand false high) (free_append (in_operand false x) (in_operand false low) (free_operand x) (free_operand low)) (free_operand high)
free_predicate (In x negated literals) = free_operand x
free_predicate (IsNull x negated) = free_operand x

free_formula : (f : Formula) → AreFree (in_formula false f)
free_formula (says p) = free_predicate p
free_formula (in_parentheses f) = free_formula f
free_formula (is_truth f is) = free_formula f
free_formula (negation f) = free_formula f
free_formula no_factor = tt
free_formula (both f g) = free_append (in_formula false f) (in_formula false g) (free_formula f) (free_formula g)
free_formula no_term = tt
free_formula (either f g) = free_append (in_formula false f) (in_formula false g) (free_formula f) (free_formula g)

never_lacks : (columns : List ColumnShape) (n : Named) → n.1 ≡ false → is_ungrouped columns [] n ≡ false
never_lacks columns n e = by_column (column_at columns n.0.name)
  where
    by_column : (o : Option ℕ) → lacks_group (is_grouped columns []) n.1 o ≡ false
    by_column None = refl
    by_column (Some i) = rw e refl

none_ungrouped : (columns : List ColumnShape) (ns : List Named) → AreFree ns → least (is_ungrouped columns []) None ns ≡ None
none_ungrouped columns [] h = refl
none_ungrouped columns (n ∷ ns) h = rw (never_lacks columns n h.0) (none_ungrouped columns ns h.1)

-- what is resolved is the first refusal, at its least place
pub condition_judged : (table : Table) (f : Formula) → IsConditionJudged table f (resolved_condition table f)
condition_judged table f =
    rw (places_least table.columns [] (None, None) (in_formula false f), none_ungrouped table.columns (in_formula false f) (free_formula f))
    (by_place _ (least_from (is_missing table.columns) None (in_formula false f)))
  where
    by_place : (missing : Option ℕ) → IsLeastPlace (is_missing table.columns) (in_formula false f) missing → IsConditionJudged table f (verdict (missing, None))
    by_place None m = m
    by_place (Some at) m = m
