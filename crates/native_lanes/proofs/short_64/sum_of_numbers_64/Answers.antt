-- A step adds to each lane's sum its number, where its row is taken.
use Rattle.std.proofs.Common.{◌≡◌, ◌==◌, ℕ, ◌+◌, ◌^◌, ◌<◌, ◌≤◌, Bool, cond, replicate, slice_index, inr, refl, sym, ap, ◌∙◌, arith}
use Rattle.std.specs.Int.{bit_at}
use Rattle.std.proofs.lemmas.List.{get_or-replicate}
use Rattle.transpose_order.specs.Mask.{has}
use Rattle.transpose_order.specs.Place.{row_at}
use Rattle.bit_interleave.specs.Packing.{packed_value}
use Rattle.native_lanes.specs.Folds.{fold_to}
use Rattle.native_lanes.proofs.FoldLemmas.{fold_to-zero, fold_to-more}
use Rattle.native_lanes.proofs.ShortLemmas.{packed_value-short, taken_at_most, sum_of_packed}
use Rattle.native_lanes.proofs.short_64.sum_of_numbers_64.Goals as goal

pub loop-step-init : goal.loop-step-init
loop-step-init c =
    let nothing : (lane : ℕ) → lane < 16 → slice_index (replicate 16 0) lane ≡ 0 = (λ lane h. get_or-replicate 16 lane 0 0 h) in
    record {
      sums = λ lane h. omega (arith, nothing lane h, fold_to-zero ◌+◌ 0 (λ s. cond (has c.args.rows.now (row_at 64 lane s)) (packed_value 64 c.args.width c.args.words.now lane s) 0));
      bound = λ lane h. omega (arith, nothing lane h);
    }

pub add_step-requires-clause-sums : goal.add_step-requires-clause-sums
add_step-requires-clause-sums c = λ lane h.
    let short = packed_value-short 64 c.args.width 58 c.args.words.now lane c.loop-step.step c.requires.width in
    omega (arith, short, c.numbers_64-numbers.ensures lane h, c.loop-step.invariant.bound lane h, c.loop-step-test.true)

pub loop-step-preserved : goal.loop-step-preserved
loop-step-preserved c =
    let step = c.loop-step.step in
    let now = c.loop-step.invariant in
    let rows = c.args.rows.now in
    let lanes = c.lanes_of_mask_64-lanes.result in
    let numbers = c.numbers_64-numbers.result in
    let term : ℕ → ℕ → ℕ = λ lane s. cond (has rows (row_at 64 lane s)) (packed_value 64 c.args.width c.args.words.now lane s) 0 in
    let taken : ℕ → ℕ = λ lane. cond (bit_at (slice_index lanes lane) step == 1) (slice_index numbers lane) 0 in
    let taken_is : (lane : ℕ) → lane < 16 → taken lane ≡ term lane step = (λ lane h.
    ap (λ (b : Bool). cond b (slice_index numbers lane) 0) (c.lanes_of_mask_64-lanes.ensures lane step h c.loop-step-test.true)
    ∙ ap (λ (n : ℕ). cond (has rows (row_at 64 lane step)) n 0) (c.numbers_64-numbers.ensures lane h)) in
    let sums : (lane : ℕ) → lane < 16 → slice_index c.add_step.new.sums lane ≡ slice_index c.loop-step.sums lane + taken lane = (λ lane h. c.add_step.ensures lane h) in
    record {
      sums = λ lane h. sums lane h ∙ ap (λ n. n + taken lane) (now.sums lane h) ∙ ap (λ n. fold_to ◌+◌ 0 step (term lane) + n) (taken_is lane h) ∙ sym (fold_to-more ◌+◌ 0 step (term lane));
      bound = λ lane h.
          let short = packed_value-short 64 c.args.width 58 c.args.words.now lane step c.requires.width in
          let most : taken lane ≤ 2 ^ 58 = taken_at_most (bit_at (slice_index lanes lane) step == 1) (slice_index numbers lane) (2 ^ 58) (omega (arith, short, c.numbers_64-numbers.ensures lane h)) in
          omega (arith, now.bound lane h, sums lane h, most);
    }

pub returns-clause-sum : goal.returns-clause-sum
returns-clause-sum c =
    let rows = c.args.rows.now in
    let all : c.loop-step.step ≡ 64 = omega arith in
    c.sum_of_sums.ensures.sum
    ∙ sum_of_packed 64 c.args.width c.args.words.now rows (slice_index c.loop-step.sums) (inr (inr (inr refl)))
    (λ lane h. c.loop-step.invariant.sums lane h ∙ ap (λ (k : ℕ). fold_to ◌+◌ 0 k (λ s. cond (has rows (row_at 64 lane s)) (packed_value 64 c.args.width c.args.words.now lane s) 0)) all)
