-- Values are equal exactly where their bits are.
use Rattle.std.proofs.Common.{◌≡◌, ℕ, ◌<◌, ◌≤◌, min, nat_lt, pos, map, take, length, subst, sym, ap, ◌∙◌, arith}
use Rattle.std.proofs.lemmas.Bool.{true_from_ne_false}
use Rattle.std.proofs.lemmas.Bool.Decides.{nat_tests}
use Rattle.run_dictionary.specs.Dict.{distinct}
use Rattle.run_dictionary.proofs.DistinctLemmas.{distinct-bits}
use Rattle.run_dictionary.proofs.FewValues.{more_to_three}
use Rattle.run_dictionary.proofs.seen.more_values.Goals as goal

pub returns-then-limit-lt3 : goal.returns-then-limit-lt3
returns-then-limit-lt3 c =
    let limit : ℕ = c.args.limit in
    let n : ℕ = length (distinct c.args.values.now.values) in
    let d : ℕ = c.distinct_to_three.result in
    let more = more_to_three limit n c.if-limit-lt3.true in (
      λ yes. let l : limit < d = grind (arith, nat_tests) in more.0 (subst (λ (k : ℕ). limit < k) c.distinct_to_three.ensures l),
      λ h. true_from_ne_false (nat_lt limit d) (λ no. let past : d ≤ limit = grind (arith, nat_tests) in
          let up : limit < d = subst (λ (k : ℕ). limit < k) (sym c.distinct_to_three.ensures) (more.1 h) in absurd (omega (arith, past, up))),
    )

pub returns : goal.returns
returns c =
    let values = c.args.values.now.values in
    let numbers = c.loop-k.numbers in
    let bits : length (distinct (map pos (take (length values) numbers))) ≡ length (distinct values) =
    distinct-bits values numbers c.requires.many c.loop-k.invariant.long (λ i h. c.loop-k.invariant.done i (omega (arith, h, c.loop-k-test.false))) (λ i h. c.loop-k.invariant.fit i (omega (arith, h, c.loop-k-test.false))) in
    let same : length (distinct (map pos (take c.len.result numbers))) ≡ length (distinct values) = ap (λ (n : ℕ). length (distinct (map pos (take n numbers)))) c.len.ensures ∙ bits in
    (λ t. omega (arith, same, c.more_distinct.ensures.0 t), λ l. c.more_distinct.ensures.1 (omega (arith, same, l)))
