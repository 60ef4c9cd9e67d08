-- A step adds to each lane's two parts those of its number, where its row is taken.
use Rattle.std.proofs.Common.{◌≡◌, ◌==◌, ℕ, ◌+◌, ◌*◌, ◌/◌, ◌%◌, ◌^◌, ◌<◌, Bool, cond, replicate, slice_index, inr, refl, sym, ap, subst, ◌∙◌, arith}
use Rattle.std.specs.Int.{bit_at}
use Rattle.std.proofs.lemmas.List.{get_or-replicate}
use Rattle.transpose_order.specs.Mask.{has}
use Rattle.transpose_order.specs.Place.{row_at}
use Rattle.native_lanes.specs.Folds.{fold_to}
use Rattle.native_lanes.specs.Walks.{Walk, number_before, number_at}
use Rattle.native_lanes.proofs.FoldLemmas.{fold_to-zero, fold_to-more}
use Rattle.native_lanes.proofs.WalkLemmas.{number_before-zero, number_at-below, taken_below, parts, sum_of_walk}
use Rattle.native_lanes.proofs.walk_64.Walk64.sum.Goals as goal

pub loop-step-init : goal.loop-step-init
loop-step-init c =
    let inside = c.self.inside in
    let nothing : (lane : ℕ) → lane < 16 → slice_index (replicate 16 0) lane ≡ 0 = (λ lane h. get_or-replicate 16 lane 0 0 h) in
    record {
      numbers = λ lane h.
          number_before-zero (record { lane_width = 64; width = inside.width; words = inside.words.now; carried = inside.carried; starts = inside.starts; added = inside.added }) lane
          ∙ ap (λ (w : Walk). number_before w lane 0) c.self.view_is;
      low = λ lane h. omega (arith, nothing lane h);
      high = λ lane h. omega (arith, nothing lane h);
      sums = λ lane h. omega (arith, nothing lane h, fold_to-zero ◌+◌ 0 (λ s. cond (has c.args.rows.now (row_at 64 lane s)) (number_at c.args.self.now lane s) 0));
    }

pub loop-step-preserved : goal.loop-step-preserved
loop-step-preserved c =
    let step = c.loop-step.step in
    let now = c.loop-step.invariant in
    let walk = c.args.self.now in
    let rows = c.args.rows.now in
    let lanes = c.lanes_of_mask_64-lanes.result in
    let numbers = c.go.new.numbers in
    let term : ℕ → ℕ → ℕ = λ lane s. cond (has rows (row_at 64 lane s)) (number_at walk lane s) 0 in
    let taken : ℕ → ℕ = λ lane. cond (bit_at (slice_index lanes lane) step == 1) (slice_index numbers lane) 0 in
    let taken_is : (lane : ℕ) → lane < 16 → taken lane ≡ term lane step = (λ lane h.
    ap (λ (b : Bool). cond b (slice_index numbers lane) 0) (c.lanes_of_mask_64-lanes.ensures lane step h c.loop-step-test.true)
    ∙ ap (λ (n : ℕ). cond (has rows (row_at 64 lane step)) n 0) (c.go.ensures lane h)) in
    let width : walk.lane_width ≡ 64 = ap (λ (w : Walk). w.lane_width) (sym c.self.view_is) in
    let small : (lane : ℕ) → lane < 16 → taken lane < 2 ^ 64 = (λ lane h.
    let below : number_at walk lane step < 2 ^ 64 = subst (λ (t : ℕ). number_at walk lane step < 2 ^ t) width (number_at-below walk lane step) in
    taken_below (bit_at (slice_index lanes lane) step == 1) (slice_index numbers lane) (2 ^ 64) (omega (arith, below, c.go.ensures lane h)) (omega arith)) in
    let low : (lane : ℕ) → lane < 16 → slice_index c.add_step.new.low lane ≡ slice_index c.loop-step.low lane + taken lane % 2 ^ 32 = (λ lane h. c.add_step.ensures.low lane h) in
    let high : (lane : ℕ) → lane < 16 → slice_index c.add_step.new.high lane ≡ slice_index c.loop-step.high lane + taken lane / 2 ^ 32 = (λ lane h. c.add_step.ensures.high lane h) in
    record {
      numbers = λ lane h. c.go.ensures lane h;
      low = λ lane h. omega (arith, now.low lane h, low lane h);
      high = λ lane h. omega (arith, now.high lane h, high lane h, small lane h);
      sums = λ lane h.
          let whole : slice_index c.add_step.new.low lane + 2 ^ 32 * slice_index c.add_step.new.high lane ≡ slice_index c.loop-step.low lane + 2 ^ 32 * slice_index c.loop-step.high lane + taken lane = omega (arith, low lane h, high lane h, parts (taken lane) (2 ^ 32)) in
          whole ∙ ap (λ n. n + taken lane) (now.sums lane h) ∙ ap (λ n. fold_to ◌+◌ 0 step (term lane) + n) (taken_is lane h) ∙ sym (fold_to-more ◌+◌ 0 step (term lane));
    }

pub returns-clause-sum : goal.returns-clause-sum
returns-clause-sum c =
    let walk = c.args.self.now in
    let rows = c.args.rows.now in
    let all : c.loop-step.step ≡ 64 = omega arith in
    let width : walk.lane_width ≡ 64 = ap (λ (w : Walk). w.lane_width) (sym c.self.view_is) in
    let whole = sum_of_walk walk rows 64 (2 ^ 32) (slice_index c.loop-step.low) (slice_index c.loop-step.high) (inr (inr (inr refl))) width
    (λ lane h. c.loop-step.invariant.sums lane h ∙ ap (λ (k : ℕ). fold_to ◌+◌ 0 k (λ s. cond (has rows (row_at 64 lane s)) (number_at walk lane s) 0)) all) in
    omega (arith, whole, c.from.ensures, c.from-2.ensures, c.sum_of_lanes.ensures.sum, c.sum_of_lanes-2.ensures.sum)
