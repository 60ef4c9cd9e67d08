-- A bit of `a & !b` is set where it is in `a` and not in `b`.
use Rattle.std.proofs.Common.{rules, ◌≡◌, ◌==◌, ℕ, ◌<◌, ◌&&◌, not, slice_index_or, bit_and, ap, ◌∙◌}
use Rattle.std.specs.Int.{bit_at, bit_not, w64}
use Rattle.transpose_order.proofs.BitLemmas.{bit_is_set-and, bit_is_set-not}
use Rattle.transpose_order.proofs.MaskLemmas.{rows_of-combined}
use Rattle.transpose_order.proofs.masks.Mask.and_not.Goals as goal

pub returns : goal.returns
returns c =
    let each : (j : ℕ) → j < 16 → slice_index_or c.combined.result j 0 ≡ bit_and (slice_index_or c.self.inside.words j 0) (bit_not w64 (slice_index_or c.other.inside.words j 0)) = (λ j h. let e = c.combined.ensures j h in search rules) in
    rows_of-combined _ _ c.combined.result _ _ (λ a b. bit_and a (bit_not w64 b)) (λ x y. x && not y)
    (λ a b p h m. bit_is_set-and a (bit_not w64 b) p ∙ ap (λ y. (bit_at a p == 1) && y) (bit_is_set-not b p h m)) c.self.view_is c.other.view_is c.other.invariant each
