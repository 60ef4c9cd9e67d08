-- One more lane's sums grow, and the others stay.
use Rattle.std.proofs.Common.{◌+◌, ◌/◌, ◌%◌, ◌^◌, slice_index, bit_and, ap, ◌∙◌, arith}
use Rattle.std.proofs.lemmas.List.{length-set}
use Rattle.std.proofs.lemmas.Nat.{and_mask}
use Rattle.native_lanes.proofs.ListLemmas.{set_more, set_rest}
use Rattle.native_lanes.proofs.walk_64.add_all_parts.Goals as goal

pub loop-i-preserved : goal.loop-i-preserved
loop-i-preserved c =
    let i = c.loop-i.i in
    let now = c.loop-i.invariant in
    let number = slice_index c.args.numbers.now i in
    let low = slice_index c.loop-i.low i + bit_and number 4294967295 in
    let high = slice_index c.loop-i.high i + number / 4294967296 in
    record {
      low_long = length-set c.loop-i.low i low ∙ now.low_long;
      high_long = length-set c.loop-i.high i high ∙ now.high_long;
      low_done = set_more (λ k. slice_index c.args.low.now k + slice_index c.args.numbers.now k % 2 ^ 32) c.loop-i.low i low (omega (arith, now.low_long, c.loop-i-test.true)) now.low_done
          (ap (λ n. slice_index c.loop-i.low i + n) (and_mask number 32) ∙ ap (λ n. n + number % 2 ^ 32) (now.low_rest i (omega arith)));
      low_rest = set_rest (slice_index c.args.low.now) c.loop-i.low i low now.low_rest;
      high_done = set_more (λ k. slice_index c.args.high.now k + slice_index c.args.numbers.now k / 2 ^ 32) c.loop-i.high i high (omega (arith, now.high_long, c.loop-i-test.true)) now.high_done
          (ap (λ n. n + number / 2 ^ 32) (now.high_rest i (omega arith)));
      high_rest = set_rest (slice_index c.args.high.now) c.loop-i.high i high now.high_rest;
    }
