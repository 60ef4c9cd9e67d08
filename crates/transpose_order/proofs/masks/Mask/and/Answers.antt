-- A bit of `a & b` is set where both are.
use Rattle.std.proofs.Common.{rules, ◌≡◌, ℕ, ◌<◌, ◌&&◌, slice_index_or, bit_and}
use Rattle.transpose_order.proofs.BitLemmas.{bit_is_set-and}
use Rattle.transpose_order.proofs.MaskLemmas.{rows_of-combined}
use Rattle.transpose_order.proofs.masks.Mask.and.Goals as goal

pub returns : goal.returns
returns c =
    let each : (j : ℕ) → j < 16 → slice_index_or c.combined.result j 0 ≡ bit_and (slice_index_or c.self.inside.words j 0) (slice_index_or c.other.inside.words j 0) = (λ j h. let e = c.combined.ensures j h in search rules) in
    rows_of-combined _ _ c.combined.result _ _ (λ a b. bit_and a b) (λ x y. x && y) (λ a b p _ _. bit_is_set-and a b p) c.self.view_is c.other.view_is c.other.invariant each
