-- One more step is marked.
use Rattle.std.proofs.Common.{◌≡◌, ◌==◌, ℕ, ◌&&◌, ◌||◌, Bool, true, false, nat_lt, slice_index, sym, ap, ◌∙◌, arith}
use Rattle.std.specs.Int.{bit_at}
use Rattle.std.proofs.lemmas.Bool.Decides.{nat_tests}
use Rattle.std.proofs.lemmas.Nat.Bits.{bit_at-zero}
use Rattle.std.proofs.lemmas.Simd.{get_or-replicate}
use Rattle.native_lanes.specs.Pairs.{number_passes}
use Rattle.native_lanes.specs.Walks.{Walk, number_before, number_at}
use Rattle.native_lanes.proofs.MarkLemmas.{bit_more}
use Rattle.native_lanes.proofs.WalkLemmas.{number_before-zero}
use Rattle.native_lanes.proofs.walk_32.Walk32.marks_beside.Goals as goal

pub loop-step-init : goal.loop-step-init
loop-step-init c =
    let inside = c.self.inside in
    let beside = c.other.inside in
    record {
      numbers = λ lane h.
          number_before-zero (record { lane_width = 32; width = inside.width; words = inside.words.now; carried = inside.carried; starts = inside.starts; added = inside.added }) lane
          ∙ ap (λ (w : Walk). number_before w lane 0) c.self.view_is;
      others = λ lane h.
          number_before-zero (record { lane_width = 32; width = beside.width; words = beside.words.now; carried = beside.carried; starts = beside.starts; added = beside.added }) lane
          ∙ ap (λ (w : Walk). number_before w lane 0) c.other.view_is;
      marks = λ lane r h k.
          let off : nat_lt r 0 ≡ false = grind (arith, nat_tests) in
          ap (λ n. bit_at n r == 1) (get_or-replicate 32 lane 0 0 h) ∙ ap (λ b. b == 1) (bit_at-zero r)
          ∙ sym (ap (λ b. b && number_passes c.args.test (number_at c.args.self.now lane r) (number_at c.args.other.now lane r)) off);
    }

pub loop-step-preserved : goal.loop-step-preserved
loop-step-preserved c =
    let step = c.loop-step.step in
    let asked = c.args.test in
    record {
      numbers = λ lane h. c.go.ensures lane h;
      others = λ lane h. c.go-in-loop-step.ensures lane h;
      marks = λ lane r h k.
          let test : ℕ → Bool = λ r. number_passes asked (number_at c.args.self.now lane r) (number_at c.args.other.now lane r) in
          let old = bit_at (slice_index c.loop-step.marks lane) r == 1 in
          c.mark_beside.ensures lane r h k
          ∙ ap (λ n. (number_passes asked n (slice_index c.go-in-loop-step.new.numbers lane) && (r == step)) || old) (c.go.ensures lane h)
          ∙ ap (λ n. (number_passes asked (number_at c.args.self.now lane step) n && (r == step)) || old) (c.go-in-loop-step.ensures lane h)
          ∙ ap (λ b. (test step && (r == step)) || b) (c.loop-step.invariant.marks lane r h k)
          ∙ bit_more step r (test step) (test r) (λ e. ap test (sym e));
    }

pub returns-clause-marks : goal.returns-clause-marks
returns-clause-marks c = λ lane r h k.
    let on : nat_lt r c.loop-step.step ≡ true = grind (arith, nat_tests) in
    c.loop-step.invariant.marks lane r h k ∙ ap (λ b. b && number_passes c.args.test (number_at c.args.self.now lane r) (number_at c.args.other.now lane r)) on

pub returns-clause-width : goal.returns-clause-width
returns-clause-width c = ap (λ (w : Walk). w.lane_width) (sym c.self.view_is)

pub returns-clause-other : goal.returns-clause-other
returns-clause-other c = ap (λ (w : Walk). w.lane_width) (sym c.other.view_is)
