-- A vector has no more keys than values.
use Rattle.std.proofs.Common.{◌<◌, ℕ, Option, IfNone, length, sym, ◌∙◌, subst, arith}
use Rattle.run_dictionary.specs.Dict.{distinct}
use Rattle.run_dictionary.proofs.KeyLemmas.{fewer_keys_than_values, keys_apart}
use Rattle.run_dictionary.proofs.counting.count_distinct_to.Goals as goal

pub returns-in_err-keys-clause-none : goal.returns-in_err-keys-clause-none
returns-in_err-keys-clause-none c =
    let more : c.args.limit < length (distinct c.args.values.now) = omega (arith, c.in_err-keys.ensures.none, fewer_keys_than_values c.args.values.now) in
    subst (λ (o : Option ℕ). IfNone o (c.args.limit < length (distinct c.args.values.now))) (sym c.from_residual.ensures) more

pub returns-then-are_near-clause-some : goal.returns-then-are_near-clause-some
returns-then-are_near-clause-some c =
    c.in_ok-keys.ensures.some ∙ keys_apart c.args.values.now (λ m n h l. c.are_near.ensures.apart c.if-are_near.true m n (omega (arith, c.told-values)) (omega (arith, c.told-values)))
