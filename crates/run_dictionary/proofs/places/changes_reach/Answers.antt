-- The changes at some places are no more than all.
use Rattle.std.proofs.Common.{◌≡◌, ℕ, ◌+◌, ◌-◌, ◌*◌, suc, ℤ, pos, ap, ◌∙◌, refl, arith}
use Rattle.std.proofs.lemmas.Bool.{leb-true, le-leb}
use Rattle.transpose_order.specs.Mask.{count_below}
use Rattle.transpose_order.proofs.MaskLemmas.{count_below-le}
use Rattle.bit_interleave.specs.Places.{by_place}
use Rattle.run_dictionary.specs.Runs.{changes_at}
use Rattle.run_dictionary.proofs.PlaceCounts.{count_at_places, count_at_places-start, count_at_places-more, count_at_places-changes, count_at_places-rises}
use Rattle.run_dictionary.proofs.places.changes_reach.Goals as goal

pub loop-place-init : goal.loop-place-init
loop-place-init c =
    let v : ℕ → ℤ = λ n. pos (by_place c.args.numbers.now n) in
    (c.changes_at_first-count.ensures ∙ count_at_places-start v, omega (arith, c.changes_at_first-count.ensures, count_below-le (λ j. changes_at v (64 * j)) 16))

pub returns-then-count-least : goal.returns-then-count-least
returns-then-count-least c =
    let v : ℕ → ℤ = λ n. pos (by_place c.args.numbers.now n) in
    let place = c.loop-place.place in
    let rest : place + (64 - place) ≡ 64 = omega arith in
    (λ _. omega (arith, c.if-count-least.true, c.loop-place.invariant.0, count_at_places-rises (changes_at v) place (64 - place), ap (count_at_places (changes_at v)) rest, count_at_places-changes v), λ _. refl)

pub overflow_add-count : goal.overflow_add-count
overflow_add-count c =
    let v : ℕ → ℤ = λ n. pos (by_place c.args.numbers.now n) in
    record { fits = omega (arith, c.loop-place.invariant.1, c.changes_at_place-count.ensures, count_below-le (λ j. changes_at v (64 * j + c.loop-place.place)) 16) }

pub loop-place-preserved : goal.loop-place-preserved
loop-place-preserved c =
    let v : ℕ → ℤ = λ n. pos (by_place c.args.numbers.now n) in
    let place = c.loop-place.place in (
      omega (arith, c.loop-place.invariant.0, c.changes_at_place-count.ensures, count_at_places-more (changes_at v) place),
      omega (arith, c.loop-place.invariant.1, c.changes_at_place-count.ensures, count_below-le (λ j. changes_at v (64 * j + place)) 16),
    )

pub returns : goal.returns
returns c =
    let v : ℕ → ℤ = λ n. pos (by_place c.args.numbers.now n) in
    let end : c.loop-place.place ≡ 64 = omega arith in
    let all : c.loop-place.count ≡ count_below (λ i. changes_at v (suc i)) 1023 = c.loop-place.invariant.0 ∙ ap (count_at_places (changes_at v)) end ∙ count_at_places-changes v in
    (λ t. omega (arith, all, leb-true _ _ t), λ l. le-leb _ _ (omega (arith, all, l)))
