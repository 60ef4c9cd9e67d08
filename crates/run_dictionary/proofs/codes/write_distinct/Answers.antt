-- The changes of the sorted values are the distinct values.
use Rattle.std.proofs.Common.{◌∙◌}
use Rattle.run_dictionary.proofs.OrderLemmas.{changed_values-sorted}
use Rattle.run_dictionary.proofs.codes.write_distinct.Goals as goal

pub returns-clause-written : goal.returns-clause-written
returns-clause-written c =
    let sorted = c.sort_unstable.new.self in
    c.write_changed.ensures.written ∙ changed_values-sorted _ sorted c.sort_unstable.ensures.permutation c.sort_unstable.ensures.sorted ∙ c.write_sights-count.ensures.same
