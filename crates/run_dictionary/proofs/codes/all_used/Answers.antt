-- A number that isn't marked is no row's code.
use Rattle.std.proofs.Common.{false, slice_index_or, ap, ◌∙◌, refl}
use Rattle.std.proofs.lemmas.Bool.{both_ways}
use Rattle.run_dictionary.proofs.codes.all_used.Goals as goal

pub returns-then-not-used-k : goal.returns-then-not-used-k
returns-then-not-used-k c = (
  λ t. absurd (both_ways false refl t),
  λ all.
      let r = all c.loop-k.k c.loop-k-test.true in
      absurd (both_ways _ (ap (λ k. slice_index_or c.used_codes-used.result k false) r.2 ∙ c.if-not-used-k.true) (c.used_codes-used.ensures.unused r.0 r.1)),
)
