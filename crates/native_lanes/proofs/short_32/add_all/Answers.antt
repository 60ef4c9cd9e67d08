-- One more lane's sum grows, and the others stay.
use Rattle.std.proofs.Common.{◌+◌, slice_index, ap, ◌∙◌, arith}
use Rattle.std.proofs.lemmas.List.{length-set}
use Rattle.native_lanes.proofs.ListLemmas.{set_more, set_rest}
use Rattle.native_lanes.proofs.short_32.add_all.Goals as goal

pub loop-i-preserved : goal.loop-i-preserved
loop-i-preserved c =
    let i = c.loop-i.i in
    let now = c.loop-i.invariant in
    let number = slice_index c.args.numbers.now i in
    let sum = slice_index c.loop-i.sums i + number in
    record {
      long = length-set c.loop-i.sums i sum ∙ now.long;
      done = set_more (λ k. slice_index c.args.sums.now k + slice_index c.args.numbers.now k) c.loop-i.sums i sum (omega (arith, now.long, c.loop-i-test.true)) now.done
          (ap (λ n. n + number) (now.rest i (omega arith)));
      rest = set_rest (slice_index c.args.sums.now) c.loop-i.sums i sum now.rest;
    }
