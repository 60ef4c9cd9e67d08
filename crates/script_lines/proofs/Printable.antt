-- Printable bytes are ASCII, and so text.
use Rattle.std.specs.Prelude.{◌≡◌, ℕ, zero, suc, ◌<◌, true, nat_le, List, [], ◌∷◌, slice_index}
use Rattle.std.specs.List.{list_all}
use Rattle.std.specs.Str.{IsUtf8}
use Rattle.std.proofs.Common.{arith}
use Rattle.std.proofs.lemmas.Bool.{and_parts}
use Rattle.std.proofs.lemmas.Bool.Decides.{nat_tests}
use Rattle.std.proofs.lemmas.Str.{IsUtf8-from_ascii}
use Rattle.script_lines.specs.Line.{is_printable}

below : (c : ℕ) → is_printable c ≡ true → c < 128
below c e = let at_most : nat_le c 126 ≡ true = (and_parts (nat_le 32 c) (nat_le c 126) e).1 in grind (arith, nat_tests)

ascii : (bs : List ℕ) (i : ℕ) → list_all is_printable bs ≡ true → slice_index bs i < 128
ascii [] i e = omega arith
ascii (b ∷ bs) zero e = below b (and_parts (is_printable b) (list_all is_printable bs) e).0
ascii (b ∷ bs) (suc i) e = ascii bs i (and_parts (is_printable b) (list_all is_printable bs) e).1

pub IsUtf8-printable : (bs : List ℕ) → list_all is_printable bs ≡ true → IsUtf8 bs
IsUtf8-printable bs e = IsUtf8-from_ascii bs (λ i. ascii bs i e)
