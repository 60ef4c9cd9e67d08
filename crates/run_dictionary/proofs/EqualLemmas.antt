-- Two signed numbers are one where their bits are.
use Rattle.std.proofs.Common.{◌≡◌, true, false, eqb, ℤ, FitsSigned, ◌⊎◌, inl, inr, sym, ap, ◌∙◌}
use Rattle.std.specs.Int.{w64, cast_unsigned, cast_signed}
use Rattle.std.specs.Ordering.{int_eq}
use Rattle.std.proofs.lemmas.Bool.{cases_Bool, eqb-true, eq-eqb, false≢true, false_from_ne_true}
use Rattle.std.proofs.lemmas.Bool.Decides.{Decides-int_eq}
use Rattle.std.proofs.lemmas.Int.{to_z-of_z}

-- two signed numbers with the same bits are one
pub same_numbers : (a b : ℤ) → FitsSigned w64 a → FitsSigned w64 b → cast_unsigned w64 a ≡ cast_unsigned w64 b → a ≡ b
same_numbers a b fa fb e = sym (to_z-of_z w64 a fa) ∙ ap (cast_signed w64) e ∙ to_z-of_z w64 b fb

pub eqb-bits : (a b : ℤ) → FitsSigned w64 a → FitsSigned w64 b → eqb (cast_unsigned w64 a) (cast_unsigned w64 b) ≡ int_eq a b
eqb-bits a b fa fb = by_test (cases_Bool (eqb (cast_unsigned w64 a) (cast_unsigned w64 b)))
  where
    by_test : (eqb (cast_unsigned w64 a) (cast_unsigned w64 b) ≡ true) ⊎ (eqb (cast_unsigned w64 a) (cast_unsigned w64 b) ≡ false) → eqb (cast_unsigned w64 a) (cast_unsigned w64 b) ≡ int_eq a b
    by_test (inl e) = e ∙ sym ((Decides-int_eq a b).1 (same_numbers a b fa fb (eqb-true _ _ e)))
    by_test (inr e) =
        e ∙ sym (false_from_ne_true _ (λ same. false≢true (sym e ∙ eq-eqb _ _ (ap (cast_unsigned w64) ((Decides-int_eq a b).0 same)))))
