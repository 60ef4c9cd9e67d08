-- Numbers that are half on, and half on once more, are as they were.
use Rattle.std.proofs.Common.{ℕ, ap, sym, ◌∙◌}
use Rattle.native_lanes.specs.Pairs.{number_passes}
use Rattle.native_lanes.specs.Walks.{number_at, half_on}
use Rattle.native_lanes.specs.declared.pair_test.PairTest.{PairTest}
use Rattle.native_lanes.specs.declared.pair_test.PairTest.TheVariants.{Equal, Less}
use Rattle.native_lanes.proofs.WalkLemmas.{half_on_again}
use Rattle.native_lanes.proofs.walk_64.Walk64.marks_beside.Goals as goal

pub returns-in-Equal-clause-marks : goal.returns-in-Equal-clause-marks
returns-in-Equal-clause-marks c = λ lane r h k.
    c.marks_equal.ensures lane r h k
    ∙ ap (λ (n : ℕ). number_passes Equal n (half_on (number_at c.shifted-right.result lane r))) (half_on_again c.args.self.now c.shifted-left.result lane r c.shifted-left.ensures.width (c.shifted-left.ensures.numbers lane r h k))
    ∙ ap (λ (n : ℕ). number_passes Equal (number_at c.args.self.now lane r) n) (half_on_again c.args.other.now c.shifted-right.result lane r c.shifted-right.ensures.width (c.shifted-right.ensures.numbers lane r h k))
    ∙ ap (λ (b : PairTest). number_passes b (number_at c.args.self.now lane r) (number_at c.args.other.now lane r)) (sym c.in-Equal.is)

pub returns-in-Less-clause-marks : goal.returns-in-Less-clause-marks
returns-in-Less-clause-marks c = λ lane r h k.
    c.marks_below.ensures lane r h k
    ∙ ap (λ (n : ℕ). number_passes Less n (half_on (number_at c.shifted-right.result lane r))) (half_on_again c.args.self.now c.shifted-left.result lane r c.shifted-left.ensures.width (c.shifted-left.ensures.numbers lane r h k))
    ∙ ap (λ (n : ℕ). number_passes Less (number_at c.args.self.now lane r) n) (half_on_again c.args.other.now c.shifted-right.result lane r c.shifted-right.ensures.width (c.shifted-right.ensures.numbers lane r h k))
    ∙ ap (λ (b : PairTest). number_passes b (number_at c.args.self.now lane r) (number_at c.args.other.now lane r)) (sym c.in-Less.is)
