-- The changes of the sorted values are the distinct values.
use Rattle.std.proofs.Common.{◌+◌, length, ap, ◌∙◌, arith}
use Rattle.std.proofs.lemmas.List.{length-take}
use Rattle.run_dictionary.proofs.OrderLemmas.{changed_values-sorted, length-changes, length-distinct}
use Rattle.run_dictionary.proofs.codes.count_distinct.Goals as goal

pub returns-clause-value : goal.returns-clause-value
returns-clause-value c =
    let sorted = c.sort_unstable.new.self in
    ap (λ k. k + 1) c.count_changes.ensures.value ∙ length-changes sorted (omega (arith, c.sort_unstable.ensures.len, length-take c.write_sights-count.result c.write_sights-count.new.into, c.write_sights-count.ensures.some, c.write_sights-count.ensures.bound, c.write_sights-count.array_long))
    ∙ ap length (changed_values-sorted _ sorted c.sort_unstable.ensures.permutation c.sort_unstable.ensures.sorted ∙ c.write_sights-count.ensures.same)

pub returns-clause-bound : goal.returns-clause-bound
returns-clause-bound c = omega (arith, returns-clause-value c, length-distinct c.args.values.now, c.told-values)
