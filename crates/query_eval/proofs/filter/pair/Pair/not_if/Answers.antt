-- The two cases.
use Rattle.std.proofs.Common.{Bool, sym, subst}
use Rattle.table_model.specs.Condition.{not_if}
use Rattle.query_eval.specs.Where.{IsPair}
use Rattle.query_eval.proofs.filter.pair.Pair.not_if.Goals as goal

pub returns-then-negated : goal.returns-then-negated
returns-then-negated c = λ mask t p. subst (λ (b : Bool). IsPair mask (λ n. not_if b (t n)) c.not.result) (sym c.if-negated.true) (c.not.ensures mask t p)

pub returns-else-negated : goal.returns-else-negated
returns-else-negated c = λ mask t p. subst (λ (b : Bool). IsPair mask (λ n. not_if b (t n)) c.args.self) (sym c.if-negated.false) p
