-- None of the keys so far is the literal.
use Rattle.std.proofs.Common.{◌≡◌, ◌<◌, ℕ, false, get_or, pos}
use Rattle.std.specs.Ordering.{int_eq}
use Rattle.query_eval.proofs.filter.code_predicates.code_of.Given as goal

abbrev pub invariant-loop-code : goal.invariant-loop-code
invariant-loop-code l = (k : ℕ) → k < l.code → int_eq (get_or l.keys k (pos 0)) l.literal ≡ false
