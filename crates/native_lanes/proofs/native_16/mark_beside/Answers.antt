-- One more lane is marked, and the others stay.
use Rattle.std.proofs.Common.{◌≡◌, ◌==◌, ℕ, ◌<◌, ◌&&◌, ◌||◌, Bool, length, slice_index, set, get_or, ap, ◌∙◌, arith, below_more}
use Rattle.std.specs.Int.{bit_at}
use Rattle.std.proofs.lemmas.List.{get_or-set_same, get_or-set_other, length-set}
use Rattle.native_lanes.specs.Pairs.{number_passes}
use Rattle.native_lanes.proofs.native_16.mark_beside.Goals as goal

pub loop-i-preserved : goal.loop-i-preserved
loop-i-preserved c =
    let i = c.loop-i.i in
    let old = c.loop-i.marks in
    let word = c.with_step.result in
    let inside : i < length old = omega (arith, c.loop-i.invariant.long, c.loop-i-test.true) in
    let test : ℕ → Bool = λ k. number_passes c.args.test (slice_index c.args.numbers.now k) (slice_index c.args.others.now k) in
    record {
      long = length-set old i word ∙ c.loop-i.invariant.long;
      marked = λ k r h l.
          below_more (λ (k : ℕ). (r : ℕ) → r < 16 → (bit_at (get_or (set old i word) k 0) r == 1) ≡ ((test k && (r == c.args.step)) || (bit_at (slice_index c.args.marks.now k) r == 1))) i
          (λ k before r l. ap (λ x. bit_at x r == 1) (get_or-set_other old i k word 0 (λ e. omega (arith, e))) ∙ c.loop-i.invariant.marked k r before l)
          (λ r l. ap (λ x. bit_at x r == 1) (get_or-set_same old i word 0 inside) ∙ c.with_step.ensures r l
          ∙ ap (λ b. (b && (r == c.args.step)) || (bit_at (slice_index old i) r == 1)) c.passes.ensures
          ∙ ap (λ x. (test i && (r == c.args.step)) || (bit_at x r == 1)) (c.loop-i.invariant.rest i (omega arith)))
          k h r l;
      rest = λ k h. get_or-set_other old i k word 0 (λ e. omega (arith, e)) ∙ c.loop-i.invariant.rest k (omega arith);
    }
