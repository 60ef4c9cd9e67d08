-- The words are shifted, joined and masked.
use Rattle.std.proofs.Common.{ℕ, ◌-◌, ◌<◌, ◌^◌, List, sym, subst}
use Rattle.std.specs.Int.{w64}
use Rattle.std.specs.Simd.Lanes.{chunk, Each1}
use Rattle.std.proofs.lemmas.List.{map-id}
use Rattle.std.proofs.lemmas.Simd.{chunk-fits, below_from_Fits}
use Rattle.bit_interleave.proofs.NativeLemmas.{across_lanes}
use Rattle.bit_interleave.proofs.lane_word.U64LaneWord.across.Goals as goal

pub returns-clause-numbers : goal.returns-clause-numbers
returns-clause-numbers c =
    across_lanes 64 c.args.words.now c.args.at c.args.next c.args.shift (64 - c.args.shift) c.args.width c.requires.at c.requires.next c.requires.width

pub returns-clause-fit : goal.returns-clause-fit
returns-clause-fit c =
    let xs = chunk c.args.at 16 c.args.words.now in
    subst (λ (ys : List ℕ). Each1 (λ n. n < 2 ^ 64) ys) (sym (map-id xs)) (below_from_Fits w64 xs (chunk-fits w64 c.args.at 16 c.args.words.now c.type_inv.words))
