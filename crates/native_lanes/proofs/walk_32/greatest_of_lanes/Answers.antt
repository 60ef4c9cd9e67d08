-- One more number is taken in.
use Rattle.std.proofs.Common.{max, slice_index, sym, ap, ◌∙◌}
use Rattle.native_lanes.proofs.FoldLemmas.{fold_to-zero, fold_to-more}
use Rattle.native_lanes.proofs.walk_32.greatest_of_lanes.Goals as goal

pub loop-i-init : goal.loop-i-init
loop-i-init c = record { greatest = sym (fold_to-zero max 0 (slice_index c.args.numbers.now)) }

pub loop-i-preserved : goal.loop-i-preserved
loop-i-preserved c = record {
  greatest = c.max-greatest.ensures ∙ ap (λ n. max n (slice_index c.args.numbers.now c.loop-i.i)) c.loop-i.invariant.greatest ∙ sym (fold_to-more max 0 c.loop-i.i (slice_index c.args.numbers.now));
}
