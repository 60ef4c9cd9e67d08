-- Two masks are equal exactly where their words are, and where their rows are.
use Rattle.std.proofs.Common.{◌≡◌, ℕ, zero, suc, ◌-◌, ◌^◌, ◌<◌, Bool, List, replicate, slice_index_or, refl, sym, ap, ◌∙◌, arith}
use Rattle.std.specs.Bool.{Decides, beq}
use Rattle.std.specs.Cmp.{booleans_Decides}
use Rattle.std.specs.Cmp.Lexicographic.{pointwise}
use Rattle.std.proofs.lemmas.Slice.Eq.{slice_eq-Decides}
use Rattle.transpose_order.specs.Mask.{rows_of, truth_at, words_of, AreMaskWords}
use Rattle.transpose_order.specs.SameRows.{same_rows}
use Rattle.transpose_order.specs.MaskWords.{words_of-rows_of}

pub same_rows-Decides : (a b : List Bool) → Decides (same_rows a b) (a ≡ b)
unfolding same_rows
same_rows-Decides a b = slice_eq-Decides booleans_Decides a b (pointwise beq a b) refl

pub same_words : (x y : List ℕ) → AreMaskWords x → AreMaskWords y → rows_of (truth_at x) ≡ rows_of (truth_at y) → x ≡ y
same_words x y fx fy e = sym (words_of-rows_of x fx) ∙ ap words_of e ∙ words_of-rows_of y fy

-- sixteen words of ones are a mask's
fits_ones : (count j : ℕ) → slice_index_or (replicate count (2 ^ 64 - 1)) j 0 < 2 ^ 64
fits_ones zero j = omega arith
fits_ones (suc count) zero = omega arith
fits_ones (suc count) (suc j) = fits_ones count j

pub are_ones : AreMaskWords (replicate 16 (2 ^ 64 - 1))
are_ones = record { count = refl; fit = fits_ones 16 }
