-- A change counts one.
use Rattle.std.proofs.Common.{◌+◌, ◌-◌, ◌*◌, not, eqb, pos, get_or, sym, ◌∙◌, arith}
use Rattle.transpose_order.proofs.MaskLemmas.{count_below-zero}
use Rattle.bit_interleave.specs.Places.{by_place}
use Rattle.run_dictionary.specs.Runs.{changes_at}
use Rattle.run_dictionary.proofs.StepLemmas.{number_of_truth}
use Rattle.run_dictionary.proofs.PlaceCounts.{changes_at-index, count_below-one_more}
use Rattle.run_dictionary.proofs.places.changes_at_place.Goals as goal

pub loop-j-init : goal.loop-j-init
loop-j-init c = (sym (count_below-zero (λ j. changes_at (λ n. pos (by_place c.args.numbers.now n)) (64 * j + c.args.place))), omega arith)

pub loop-j-preserved : goal.loop-j-preserved
loop-j-preserved c =
    let numbers = c.args.numbers.now in
    let j = c.loop-j.j in
    let place = c.args.place in
    let differ = not (eqb (get_or numbers (16 * place + j) 0) (get_or numbers (16 * (place - 1) + j) 0)) in
    let more = count_below-one_more (λ j. changes_at (λ n. pos (by_place numbers n)) (64 * j + place)) c.loop-j.count c.from-count.result j differ c.loop-j.invariant.0 (c.from-count.ensures ∙ number_of_truth differ)
    (changes_at-index numbers (64 * j + place) (16 * place + j) (16 * (place - 1) + j) (omega (arith, c.requires.within)) (omega (arith, c.requires.within, c.requires.later))) in
    (more.0, omega (arith, more.1, c.loop-j.invariant.1))
