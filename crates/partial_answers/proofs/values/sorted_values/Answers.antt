-- In order they are the same values, and each is there once.
use Rattle.std.proofs.Common.{ℤ, List, ap, subst, ◌∙◌, sym}
use Rattle.std.specs.List.{IsDistinct, list_any}
use Rattle.std.specs.Ordering.{int_eq}
use Rattle.std.proofs.lemmas.List.Sorted.{list_any-IsPermutation}
use Rattle.std.proofs.lemmas.Map.Keys.{IsDistinct-IsPermutation}
use Rattle.partial_answers.proofs.Rising.{rises_sorted, flips}
use Rattle.partial_answers.proofs.values.sorted_values.Goals as goal

pub returns-clause-values : goal.returns-clause-values
returns-clause-values c = λ z. sym (list_any-IsPermutation (int_eq z) _ _ c.sort_unstable.ensures.permutation) ∙ ap (list_any (int_eq z)) c.in_ok-values.ensures.values

pub returns-clause-rising : goal.returns-clause-rising
returns-clause-rising c =
    rises_sorted _ c.sort_unstable.ensures.sorted (IsDistinct-IsPermutation int_eq flips _ _ c.sort_unstable.ensures.permutation (subst (λ (zs : List ℤ). IsDistinct int_eq zs) (sym c.in_ok-values.ensures.values) c.in_ok-values.ensures.apart))
