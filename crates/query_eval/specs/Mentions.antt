-- How often a query mentions columns.
use Rattle.std.specs.Prelude.{ℕ, ◌+◌}
use Rattle.table_model.specs.Formula.{Formula, says, in_parentheses, is_truth, negation, no_factor, both, no_term, either}
use Rattle.table_model.specs.declared.query.Operand.{Operand}
use Rattle.table_model.specs.declared.query.Operand.TheVariants.{Column, Literal, Function}
use Rattle.table_model.specs.declared.query.Predicate.{Predicate}
use Rattle.table_model.specs.declared.query.Predicate.TheVariants.{Compare, Between, In, IsNull}

-- an operand mentions a column, or none
abbrev pub operand_mentions : Operand → ℕ
operand_mentions (Column column) = 1
operand_mentions (Literal n) = 0
operand_mentions (Function f) = 0

-- how many columns a predicate of WHERE mentions
abbrev pub predicate_mentions : Predicate → ℕ
predicate_mentions (Compare left op right) = operand_mentions left + operand_mentions right
predicate_mentions (Between operand negated low high) = operand_mentions operand + (operand_mentions low + operand_mentions high)
predicate_mentions (In operand negated literals) = operand_mentions operand
predicate_mentions (IsNull operand negated) = operand_mentions operand

-- how many columns a condition of WHERE mentions
abbrev pub condition_mentions : Formula → ℕ
condition_mentions (says predicate) = predicate_mentions predicate
condition_mentions (in_parentheses f) = condition_mentions f
condition_mentions (is_truth f is) = condition_mentions f
condition_mentions (negation f) = condition_mentions f
condition_mentions no_factor = 0
condition_mentions (both f g) = condition_mentions f + condition_mentions g
condition_mentions no_term = 0
condition_mentions (either f g) = condition_mentions f + condition_mentions g
