-- A step takes each lane's number so far to its own, where that is further and its row is taken.
use Rattle.std.proofs.Common.{◌≡◌, ◌==◌, ℕ, Bool, max, cond, slice_index, sym, ap, ◌∙◌, arith}
use Rattle.std.specs.Int.{bit_at}
use Rattle.std.proofs.lemmas.Bool.Decides.{nat_tests}
use Rattle.std.proofs.lemmas.List.{get_or-replicate}
use Rattle.transpose_order.specs.Mask.{has}
use Rattle.transpose_order.specs.Place.{row_at}
use Rattle.native_lanes.specs.Folds.{fold_to}
use Rattle.native_lanes.specs.Walks.{Walk, number_before, number_at, turned, half_on}
use Rattle.native_lanes.proofs.FoldLemmas.{fold_to-zero, fold_to-more}
use Rattle.native_lanes.proofs.WalkLemmas.{number_before-zero}
use Rattle.native_lanes.proofs.WalkFoldLemmas.{further_is}
use Rattle.native_lanes.proofs.walk_64.Walk64.furthest_of_lanes.Goals as goal

pub loop-step-init : goal.loop-step-init
loop-step-init c =
    let inside = c.self.inside in
    record {
      numbers = λ lane h.
          number_before-zero (record { lane_width = 64; width = inside.width; words = inside.words.now; carried = inside.carried; starts = inside.starts; added = inside.added }) lane
          ∙ ap (λ (w : Walk). number_before w lane 0) c.self.view_is;
      furthest = λ lane h.
          ap (λ (n : ℕ). turned 64 c.args.flipped (half_on n)) (get_or-replicate 16 lane c.least_far-start.result 0 h) ∙ c.least_far-start.ensures
          ∙ sym (fold_to-zero max 0 (λ s. cond (has c.args.rows.now (row_at 64 lane s)) (turned 64 c.args.flipped (half_on (number_at c.args.self.now lane s))) 0));
    }

pub loop-step-preserved : goal.loop-step-preserved
loop-step-preserved c =
    let step = c.loop-step.step in
    let walk = c.args.self.now in
    let rows = c.args.rows.now in
    let flipped = c.args.flipped in
    let lanes = c.lanes_of_mask_64-lanes.result in
    let far : ℕ → ℕ = λ n. turned 64 flipped (half_on n) in
    let term : ℕ → ℕ → ℕ = λ lane s. cond (has rows (row_at 64 lane s)) (far (number_at walk lane s)) 0 in
    record {
      numbers = λ lane h. c.go.ensures lane h;
      furthest = λ lane h.
          let old = slice_index c.loop-step.furthest lane in
          ap far (c.further_step.ensures lane h)
          ∙ further_is flipped (bit_at (slice_index lanes lane) step == 1) old (slice_index c.go.new.numbers lane)
          ∙ ap (λ (b : Bool). max (far old) (cond b (far (slice_index c.go.new.numbers lane)) 0)) (c.lanes_of_mask_64-lanes.ensures lane step h c.loop-step-test.true)
          ∙ ap (λ (n : ℕ). max (far old) (cond (has rows (row_at 64 lane step)) (far n) 0)) (c.go.ensures lane h)
          ∙ ap (λ (n : ℕ). max n (term lane step)) (c.loop-step.invariant.furthest lane h)
          ∙ sym (fold_to-more max 0 step (term lane));
    }

pub returns : goal.returns
returns c = λ lane h.
    let all : c.loop-step.step ≡ 64 = omega arith in
    c.loop-step.invariant.furthest lane h
    ∙ ap (λ (k : ℕ). fold_to max 0 k (λ s. cond (has c.args.rows.now (row_at 64 lane s)) (turned 64 c.args.flipped (half_on (number_at c.args.self.now lane s))) 0)) all

pub further_step-requires-clause-all : goal.further_step-requires-clause-all
further_step-requires-clause-all c all lane h =
    let one = c.lanes_of_mask_64-lanes.ensures lane c.loop-step.step h c.loop-step-test.true ∙ c.requires all lane c.loop-step.step h c.loop-step-test.true in
    grind (arith, nat_tests, one)
