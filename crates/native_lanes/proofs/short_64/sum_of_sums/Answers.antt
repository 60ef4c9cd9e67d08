-- One more sum is added.
use Rattle.std.proofs.Common.{rules, ◌+◌, ◌<◌, ◌^◌, slice_index, sym, ap, ◌∙◌, arith}
use Rattle.native_lanes.proofs.FoldLemmas.{fold_to-zero, fold_to-more}
use Rattle.native_lanes.proofs.short_64.sum_of_sums.Goals as goal

pub loop-i-init : goal.loop-i-init
loop-i-init c = record { sum = sym (fold_to-zero ◌+◌ 0 (slice_index c.args.sums.now)); bound = omega arith }

pub loop-i-preserved : goal.loop-i-preserved
loop-i-preserved c =
    let one : slice_index c.args.sums.now c.loop-i.i < 2 ^ 64 = search rules in
    record {
      sum = ap (λ n. c.loop-i.sum + n) c.from-sum.ensures ∙ ap (λ n. n + slice_index c.args.sums.now c.loop-i.i) c.loop-i.invariant.sum ∙ sym (fold_to-more ◌+◌ 0 c.loop-i.i (slice_index c.args.sums.now));
      bound = omega (arith, one, c.from-sum.ensures, c.loop-i.invariant.bound);
    }
