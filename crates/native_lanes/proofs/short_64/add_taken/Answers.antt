-- One more lane's sum grows, and the others stay.
use Rattle.std.proofs.Common.{◌==◌, ℕ, ◌+◌, cond, slice_index, ap, ◌∙◌, arith}
use Rattle.std.specs.Int.{bit_at}
use Rattle.std.proofs.lemmas.List.{length-set}
use Rattle.native_lanes.proofs.ListLemmas.{set_more, set_rest}
use Rattle.native_lanes.proofs.short_64.add_taken.Goals as goal

pub loop-i-preserved : goal.loop-i-preserved
loop-i-preserved c =
    let i = c.loop-i.i in
    let now = c.loop-i.invariant in
    let taken : ℕ → ℕ = λ k. cond (bit_at (slice_index c.args.rows.now k) c.args.step == 1) (slice_index c.args.numbers.now k) 0 in
    let number = c.chosen.result in
    let sum = slice_index c.loop-i.sums i + number in
    record {
      long = length-set c.loop-i.sums i sum ∙ now.long;
      done = set_more (λ k. slice_index c.args.sums.now k + taken k) c.loop-i.sums i sum (omega (arith, now.long, c.loop-i-test.true)) now.done
          (ap (λ n. slice_index c.loop-i.sums i + n) c.chosen.ensures ∙ ap (λ n. n + taken i) (now.rest i (omega arith)));
      rest = set_rest (slice_index c.args.sums.now) c.loop-i.sums i sum now.rest;
    }
