-- One more number is taken in.
use Rattle.std.proofs.Common.{ℕ, max, slice_index, sym, ap, ◌∙◌}
use Rattle.native_lanes.specs.Walks.{turned}
use Rattle.native_lanes.proofs.FoldLemmas.{fold_to-zero, fold_to-more}
use Rattle.native_lanes.proofs.walk_64.greatest_of_turned.Goals as goal

pub loop-i-init : goal.loop-i-init
loop-i-init c = record { greatest = sym (fold_to-zero max 0 (λ lane. turned 64 c.args.flipped (slice_index c.args.numbers.now lane))) }

pub loop-i-preserved : goal.loop-i-preserved
loop-i-preserved c =
    let number : ℕ → ℕ = λ lane. turned 64 c.args.flipped (slice_index c.args.numbers.now lane) in
    record {
      greatest = c.max-greatest.ensures ∙ ap (λ n. max c.loop-i.greatest n) c.turned.ensures ∙ ap (λ n. max n (number c.loop-i.i)) c.loop-i.invariant.greatest ∙ sym (fold_to-more max 0 c.loop-i.i number);
    }
