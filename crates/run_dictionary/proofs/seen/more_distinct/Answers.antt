-- There are no more distinct numbers than numbers, no fewer than marks, and as many as marks where the numbers are small.
use Rattle.std.proofs.Common.{◌≡◌, length, map, pos, not, true, false, sym, ap, ◌∙◌, refl, arith}
use Rattle.std.proofs.lemmas.Bool.{both_ways}
use Rattle.std.proofs.lemmas.List.{length-map}
use Rattle.run_dictionary.specs.Dict.{distinct}
use Rattle.run_dictionary.specs.Keys.{marks_of}
use Rattle.run_dictionary.proofs.OrderLemmas.{length-distinct}
use Rattle.run_dictionary.proofs.DistinctLemmas.{fewer_marks, marks_of-small}
use Rattle.run_dictionary.proofs.seen.more_distinct.Goals as goal

pub returns-then-limit-numbers : goal.returns-then-limit-numbers
returns-then-limit-numbers c =
    let numbers = c.args.numbers.now in
    (λ t. absurd (both_ways false refl t), λ l. absurd (omega (arith, l, c.if-limit-numbers.true, length-distinct (map pos numbers), length-map numbers pos)))

pub returns-in-None : goal.returns-in-None
returns-in-None c = (λ _. omega (arith, c.in-None.ensures.none, fewer_marks c.args.numbers.now), λ _. refl)

pub returns-else-not-are_small : goal.returns-else-not-are_small
returns-else-not-are_small c =
    let numbers = c.args.numbers.now in
    let small : c.are_small.result ≡ true = c.if-not-are_small.false in
    let same : marks_of numbers ≡ map pos numbers = marks_of-small numbers (λ i h. c.are_small.ensures.0 small i 0 h) in
    (λ t. absurd (both_ways false refl (sym (ap not small) ∙ t)), λ l. absurd (omega (arith, l, c.in-Some.ensures.some, c.in-Some.ensures.within, ap (λ xs. length (distinct xs)) same)))
