-- A step writes the rows that stand at it.
use Rattle.std.proofs.Common.{◌≡◌, ◌%◌, ◌^◌, pos, ◌+ℤ◌, inr, inl, refl, sym, ap, ◌∙◌, arith, below_more}
use Rattle.transpose_order.specs.Place.{lane_of}
use Rattle.bit_interleave.specs.Range.{value_at}
use Rattle.native_lanes.specs.Walks.{Walk, number_before, number_at, number_of_row}
use Rattle.native_lanes.proofs.WalkLemmas.{number_before-zero, number_of_row-is}
use Rattle.transpose_order.proofs.PlaceLemmas.{row_at-lane_of}
use Rattle.native_lanes.proofs.walk_16.Walk16.write_values.Goals as goal

pub loop-step-init : goal.loop-step-init
loop-step-init c =
    let inside = c.self.inside in
    record {
      numbers = λ lane h.
          number_before-zero (record { lane_width = 16; width = inside.width; words = inside.words.now; carried = inside.carried; starts = inside.starts; added = inside.added }) lane
          ∙ ap (λ (w : Walk). number_before w lane 0) c.self.view_is;
      written = λ n h l. absurd (omega arith);
    }

pub loop-step-preserved : goal.loop-step-preserved
loop-step-preserved c =
    let step = c.loop-step.step in
    let walk = c.args.self.now in
    let width : walk.lane_width ≡ 16 = ap (λ (w : Walk). w.lane_width) (sym c.self.view_is) in
    record {
      numbers = λ lane h. c.go.ensures lane h;
      written = λ n h l.
          below_more (λ k. n % 16 ≡ k → pos (number_of_row walk n) ≡ value_at c.put_step.new.values n +ℤ pos (2 ^ 15)) step
          (λ k before e. c.loop-step.invariant.written n h (omega (arith, before, e)) ∙ ap (λ z. z +ℤ pos (2 ^ 15)) (sym (c.put_step.ensures.others n (λ (same : n % 16 ≡ step). omega (arith, before, e, same)))))
          (λ e. ap pos (number_of_row-is walk n 16 width ∙ ap (number_at walk (lane_of 16 n)) e ∙ sym (c.go.ensures (lane_of 16 n) (row_at-lane_of 16 n (inr (inl refl)) h).0)) ∙ c.put_step.ensures.written n h e)
          (n % 16) l refl;
    }

pub returns : goal.returns
returns c = λ n h. c.loop-step.invariant.written n h (omega arith)
