-- What holds at 8, 16, 32 and 64 holds at every lane width.
use Rattle.std.proofs.Common.{ℕ, inl, inr, subst, sym}
use Rattle.transpose_order.specs.Place.{IsLaneWidth}

pub at_widths : (P : ℕ → Type 0) → P 8 → P 16 → P 32 → P 64 → (t : ℕ) → IsLaneWidth t → P t
at_widths P p8 p16 p32 p64 t (inl e) = subst P (sym e) p8
at_widths P p8 p16 p32 p64 t (inr (inl e)) = subst P (sym e) p16
at_widths P p8 p16 p32 p64 t (inr (inr (inl e))) = subst P (sym e) p32
at_widths P p8 p16 p32 p64 t (inr (inr (inr e))) = subst P (sym e) p64
