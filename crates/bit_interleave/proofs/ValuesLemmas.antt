-- Lists of values at a lane width.
use Rattle.std.proofs.Common.{◌≡◌, ◌↔◌, ℤ, List, Bool, IsTrue, ap, sym, ◌∙◌}
use Rattle.bit_interleave.specs.LaneValues.{LaneValues}

-- at one lane width the values decide
pub same_at_width : (a b : LaneValues) (xs ys : List ℤ) (same : Bool) → a.lane_width ≡ b.lane_width → xs ≡ a.values → ys ≡ b.values
    → (IsTrue same ↔ (xs ≡ ys)) → (IsTrue same ↔ (a ≡ b))
same_at_width a b xs ys same width left right decides = (
  λ t. let values : a.values ≡ b.values = sym left ∙ decides.0 t ∙ right in λ i. record { lane_width = width i; values = values i },
  λ e. decides.1 (left ∙ ap (λ (v : LaneValues). v.values) e ∙ sym right),
)
