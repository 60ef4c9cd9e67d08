-- The literals so far and those to come decide together.
use Rattle.std.proofs.Common.{◌≡◌, drop}
use Rattle.table_model.specs.Condition.{is_among}
use Rattle.table_model.specs.Truth.{or_of}
use Rattle.query_eval.proofs.answers.having.among.Given as goal

abbrev pub invariant-loop-literal : goal.invariant-loop-literal
invariant-loop-literal l = or_of l.truth (is_among l.field (drop l.literal-index l.literal-items)) ≡ is_among l.field l.literals
