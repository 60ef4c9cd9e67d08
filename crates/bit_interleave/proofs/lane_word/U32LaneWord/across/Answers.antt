-- The words are shifted, joined and masked at their own type.
use Rattle.std.proofs.Common.{ℕ, ◌-◌, ◌<◌, ◌^◌, List, sym, subst, arith}
use Rattle.std.specs.Int.{w32}
use Rattle.std.specs.Simd.Lanes.{chunk, Each1}
use Rattle.std.proofs.lemmas.List.{map-id}
use Rattle.std.proofs.lemmas.Simd.{chunk-fits, below_from_Fits}
use Rattle.bit_interleave.proofs.NativeLemmas.{ones_fit, across_fits, across_widened}
use Rattle.bit_interleave.proofs.lane_word.U32LaneWord.across.Goals as goal

pub overflow_cast-mask : goal.overflow_cast-mask
overflow_cast-mask c = record { fits = ones_fit 32 c.args.width c.requires.width (omega arith) }

pub overflow_cast-result : goal.overflow_cast-result
overflow_cast-result c = across_fits 32 c.args.words.now c.args.at c.args.next c.args.shift (32 - c.args.shift) c.args.width c.requires.at c.requires.next (omega (arith, c.requires.width))

pub returns-clause-numbers : goal.returns-clause-numbers
returns-clause-numbers c =
    across_widened 32 c.args.words.now c.args.at c.args.next c.args.shift (32 - c.args.shift) c.args.width c.requires.at c.requires.next (omega (arith, c.requires.width))

pub returns-clause-fit : goal.returns-clause-fit
returns-clause-fit c =
    let xs = chunk c.args.at 16 c.args.words.now in
    subst (λ (ys : List ℕ). Each1 (λ n. n < 2 ^ 32) ys) (sym (map-id xs)) (below_from_Fits w32 xs (chunk-fits w32 c.args.at 16 c.args.words.now c.type_inv.words))
