-- A step writes the rows that stand at it.
use Rattle.std.proofs.Common.{◌≡◌, ℕ, ◌%◌, ◌<◌, slice_index, inl, inr, refl, sym, ap, ◌∙◌, arith, below_more}
use Rattle.transpose_order.specs.Place.{lane_of, step_of}
use Rattle.transpose_order.proofs.PlaceLemmas.{row_at-lane_of}
use Rattle.bit_interleave.specs.Packing.{packed_value}
use Rattle.fused_kernels.proofs.row_codes.write_packed.Goals as goal

pub loop-step-preserved : goal.loop-step-preserved
loop-step-preserved c =
    let width = c.args.width in
    let words = c.args.words.now in
    let step = c.loop-step.step in
    let number : (n : ℕ) → n < 1024 → n % 16 ≡ step → slice_index c.numbers_16.result (lane_of 16 n) ≡ packed_value 16 width words (lane_of 16 n) (step_of 16 n) =
    (λ n h e. c.numbers_16.ensures (lane_of 16 n) (row_at-lane_of 16 n (inr (inl refl)) h).0 ∙ ap (packed_value 16 width words (lane_of 16 n)) (sym e)) in
    record {
      long = c.put_step.array_long;
      written = λ n h l.
          below_more (λ k. n % 16 ≡ k → slice_index c.put_step.new.codes n ≡ packed_value 16 width words (lane_of 16 n) (step_of 16 n)) step
          (λ k before e. c.put_step.ensures.others n (λ (same : n % 16 ≡ step). omega (arith, before, e, same)) ∙ c.loop-step.invariant.written n h (omega (arith, before, e)))
          (λ e. c.put_step.ensures.written n h e ∙ number n h e)
          (n % 16) l refl;
    }

pub returns : goal.returns
returns c = λ n h. c.loop-step.invariant.written n h (omega arith)
