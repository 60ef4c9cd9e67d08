-- Eight rows more.
use Rattle.std.proofs.Common.{◌≡◌, ◌==◌, ◌+◌, ◌*◌, ◌/◌, ◌^◌, ◌<◌, ℕ, ap, subst, ◌∙◌, arith}
use Rattle.std.specs.Int.{bit_at}
use Rattle.std.specs.Simd.Lanes.{sum_l}
use Rattle.transpose_order.proofs.BitLemmas.{bit_at-shr}
use Rattle.transpose_order.specs.Mask.{has}
use Rattle.query_eval.specs.Slices.{IsRaised}
use Rattle.query_eval.proofs.tallies.masked_folds.add_short.Goals as goal

pub loop-group-init : goal.loop-group-init
loop-group-init c =
    let e : c.args.first ≡ c.args.first + 8 * 0 = omega arith in
    record { long = c.requires.long; few = omega (arith, c.requires.sum); value = λ rows on h. subst (λ (k : ℕ). IsRaised (2 ^ 52) k rows c.args.values.now (sum_l c.args.sums)) e h }

pub loop-group-preserved : goal.loop-group-preserved
loop-group-preserved c =
    let first = c.args.first in
    let group = c.loop-group.group in
    let values = c.args.values.now in
    let inv = c.loop-group.invariant in
    let next : first + 8 * group + 8 ≡ first + 8 * (group + 1) = omega arith in
    record {
      long = c.add_eight-sums.ensures.long;
      few = omega (arith, c.add_eight-sums.ensures.sum);
      value = λ rows on h.
          let here : (b : ℕ) → b < 8 → (bit_at (c.args.word / 2 ^ (8 * group)) b == 1) ≡ has rows (first + 8 * group + b) =
          λ b l.
          let place : first + (8 * group + b) ≡ first + 8 * group + b = omega arith in
          ap (λ n. n == 1) (bit_at-shr c.args.word (8 * group) b) ∙ on (8 * group + b) (omega (arith, l, c.loop-group-test.true)) ∙ ap (has rows) place in
          subst (λ (k : ℕ). IsRaised (2 ^ 52) k rows values (sum_l c.add_eight-sums.result)) next (c.add_eight-sums.ensures.value rows here (inv.value rows on h));
    }
