-- A number is a lower one plus the gap between them, so gaps rise with the higher number.
use Rattle.std.proofs.Common.{◌≡◌, ◌≤◌, ℤ, pos, negsuc, ◌+ℤ◌, ◌≤ℤ◌, arith}
use Rattle.std.specs.Int.{int_gap}
use Rattle.std.proofs.lemmas.Int.{ints}

pub gap_back : (r v : ℤ) → r ≤ℤ v → r +ℤ pos (int_gap r v) ≡ v
gap_back (pos a) (pos b) h = omega (arith, ints)
gap_back (pos a) (negsuc b) h = absurd (omega (arith, ints))
gap_back (negsuc a) (pos b) h = omega (arith, ints)
gap_back (negsuc a) (negsuc b) h = omega (arith, ints)

-- two numbers between two others are no farther apart than these
pub gap_within : (low x y high : ℤ) → low ≤ℤ x → x ≤ℤ y → y ≤ℤ high → int_gap x y ≤ int_gap low high
gap_within low x y high a b c = omega (arith, ints, gap_back x y b, gap_back low high (omega (arith, ints)))
