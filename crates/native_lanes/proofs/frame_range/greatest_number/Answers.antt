-- The ones that are left after a shift.
use Rattle.std.proofs.Common.{◌≡◌, ℕ, ◌-◌, ◌^◌, ap, ◌∙◌, arith}
use Rattle.std.proofs.lemmas.Nat.Bits.{ones_shr}
use Rattle.native_lanes.proofs.frame_range.greatest_number.Goals as goal

pub returns : goal.returns
returns c =
    let rest : 64 - (64 - c.args.width) ≡ c.args.width = omega arith in
    ones_shr 64 (64 - c.args.width) (omega arith) ∙ ap (λ (n : ℕ). 2 ^ n - 1) rest
