-- Tests on rows.
use Rattle.std.proofs.Common.{◌≡◌, ◌≢◌, ℕ, Bool, true, false, cond, ◌==◌, ◌&&◌, ◌||◌, nat_le, refl, arith}
use Rattle.std.proofs.lemmas.Bool.Decides.{nat_tests}

pub cond_true_false : (b : Bool) → cond b true false ≡ b
cond_true_false true = refl
cond_true_false false = refl

pub zero_le : (n : ℕ) → nat_le 0 n ≡ true
zero_le n = grind (arith, nat_tests)

pub differ : (p q : ℕ) → p ≢ q → (p == q) ≡ false
differ p q h = grind (arith, nat_tests)

pub same_is : (p : ℕ) → (p == p) ≡ true
same_is p = grind (arith, nat_tests)

pub or_off : (a b : Bool) → ((a && false) || b) ≡ b
or_off true b = refl
or_off false b = refl

pub or_on : (a : Bool) → ((a && true) || (false && a)) ≡ a
or_on true = refl
or_on false = refl

pub or_swap : (a b : Bool) → (a || b) ≡ (b || a)
or_swap true true = refl
or_swap true false = refl
or_swap false true = refl
or_swap false false = refl
