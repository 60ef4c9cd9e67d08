-- A mark that was not there is one more.
use Rattle.std.proofs.Common.{◌<◌, pos, false, get_or, length, ◌∙◌, arith}
use Rattle.std.proofs.lemmas.List.{length-map}
use Rattle.run_dictionary.specs.Keys.{mark_of, marks_of}
use Rattle.run_dictionary.proofs.KeyLemmas.{at_most_one}
use Rattle.run_dictionary.proofs.SightLemmas.{one_unless}
use Rattle.run_dictionary.proofs.DistinctLemmas.{MarksCounted-none, MarksCounted-more, MarksCounted-front, MarksCounted-bound, mark_at}
use Rattle.run_dictionary.proofs.seen.count_marks.Goals as goal

pub loop-number-init : goal.loop-number-init
loop-number-init c = record { marks = MarksCounted-none (marks_of c.args.numbers.now); within = omega arith }

pub overflow_add-count : goal.overflow_add-count
overflow_add-count c =
    let one = at_most_one (get_or c.loop-number.marked c.mark_of-mark.result false) in
    record { fits = omega (arith, c.from-count.ensures, one_unless (get_or c.loop-number.marked c.mark_of-mark.result false), one, MarksCounted-bound _ _ _ _ c.loop-number.invariant.marks, length-map c.args.numbers.now (λ number. pos (mark_of number)), c.requires) }

pub returns-then-count-limit-clause-none : goal.returns-then-count-limit-clause-none
returns-then-count-limit-clause-none c =
    let here : c.loop-number.number-index < length (marks_of c.args.numbers.now) = omega (arith, length-map c.args.numbers.now (λ number. pos (mark_of number)), c.loop-number-test.true) in
    let counted = MarksCounted-more (marks_of c.args.numbers.now) c.loop-number.marked c.loop-number.count c.from-count.result c.loop-number.number-index c.mark_of-mark.result here c.loop-number.invariant.marks c.mark_of-mark.ensures.bound
    (mark_at c.args.numbers.now c.loop-number.number-index c.mark_of-mark.result c.loop-number-test.true c.mark_of-mark.ensures.value) (c.from-count.ensures ∙ one_unless (get_or c.loop-number.marked c.mark_of-mark.result false)) in
    omega (arith, MarksCounted-front _ _ _ _ counted, c.if-count-limit.true)

pub loop-number-preserved : goal.loop-number-preserved
loop-number-preserved c =
    let here : c.loop-number.number-index < length (marks_of c.args.numbers.now) = omega (arith, length-map c.args.numbers.now (λ number. pos (mark_of number)), c.loop-number-test.true) in
    record {
      marks = MarksCounted-more (marks_of c.args.numbers.now) c.loop-number.marked c.loop-number.count c.from-count.result c.loop-number.number-index c.mark_of-mark.result here c.loop-number.invariant.marks c.mark_of-mark.ensures.bound
          (mark_at c.args.numbers.now c.loop-number.number-index c.mark_of-mark.result c.loop-number-test.true c.mark_of-mark.ensures.value) (c.from-count.ensures ∙ one_unless (get_or c.loop-number.marked c.mark_of-mark.result false));
      within = c.if-count-limit.false;
    }
