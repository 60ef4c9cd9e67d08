-- A lane's rows stand one after another in one word.
use Rattle.std.proofs.Common.{◌≡◌, ◌==◌, ℕ, ◌+◌, ◌-◌, ◌*◌, ◌/◌, ◌^◌, ◌<◌, ◌≤◌, ◌⊎◌, inl, inr, slice_index, sym, ap, ◌∙◌, arith}
use Rattle.std.specs.Int.{bit_at}
use Rattle.std.proofs.lemmas.Bool.{cases_lt}
use Rattle.transpose_order.specs.Mask.{has}
use Rattle.transpose_order.specs.Place.{row_at}
use Rattle.transpose_order.proofs.BitLemmas.{bit_at-shr, bit_at-mod}
use Rattle.transpose_order.proofs.MaskLemmas.{has-word}
use Rattle.native_lanes.proofs.walk_32.lanes_of_mask_32.Goals as goal

pub loop-group-preserved : goal.loop-group-preserved
loop-group-preserved c = record { done = λ lane step h l. by_group lane step h l (cases_lt lane (16 * c.loop-group.group)) }
  where
    by_group : (lane step : ℕ) → lane < 16 * (c.loop-group.group + 1) → step < 32 → (lane < 16 * c.loop-group.group) ⊎ (16 * c.loop-group.group ≤ lane) → (bit_at (slice_index c.put_group.new.lanes lane) step == 1) ≡ has c.args.mask.now (row_at 32 lane step)
    by_group lane step h l (inl earlier) = ap (λ x. bit_at x step == 1) (c.put_group.ensures.before lane earlier) ∙ c.loop-group.invariant.done lane step earlier l
    by_group lane step h l (inr here) =
        let group = c.loop-group.group in
        let j = lane - 16 * group in
        let shift = 32 * group in
        let at : lane ≡ 16 * group + j = omega (arith, here) in
        let inside : j < 16 = omega (arith, h) in
        let few : group < 2 = c.loop-group-test.true in
        let row : 64 * j + (shift + step) ≡ row_at 32 lane step = omega (arith, few, h, here) in
        let word = slice_index c.words-words.result.now j in
        ap (λ (k : ℕ). bit_at (slice_index c.put_group.new.lanes k) step == 1) at
        ∙ ap (λ x. bit_at x step == 1) (c.put_group.ensures.here j inside)
        ∙ ap (λ b. b == 1) (bit_at-mod (word / 2 ^ shift) 32 step l ∙ bit_at-shr word shift step)
        ∙ sym (has-word c.words-words.result.now c.args.mask.now (sym c.words-words.ensures) j (shift + step) inside (omega (arith, few, l)))
        ∙ ap (has c.args.mask.now) row

pub returns : goal.returns
returns c = λ lane step h l. c.loop-group.invariant.done lane step (omega (arith, h, c.loop-group-test.false)) l
