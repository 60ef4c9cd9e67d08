-- A truth value as two tests, whether it is true and whether it is false: what AND, OR, NOT and IS TRUE and its kin make of them.
use Rattle.std.specs.Prelude.{◌≡◌, Bool, true, false, not, ◌&&◌, ◌||◌}
use Rattle.std.proofs.Common.{refl}
use Rattle.table_model.specs.Truth.{truth_of, and_of, or_of, not_of, is_true, is_false}
use Rattle.table_model.specs.declared.truth.Truth.{Truth}
use Rattle.table_model.specs.declared.truth.Truth.TheVariants.{False, Unknown, True}

pub is_true-truth_of : (b : Bool) → is_true (truth_of b) ≡ b
is_true-truth_of false = refl
is_true-truth_of true = refl

pub is_false-truth_of : (b : Bool) → is_false (truth_of b) ≡ not b
is_false-truth_of false = refl
is_false-truth_of true = refl

pub is_false-not_of : (p : Truth) → is_false (not_of p) ≡ is_true p
is_false-not_of False = refl
is_false-not_of Unknown = refl
is_false-not_of True = refl

pub is_true-and_of : (p q : Truth) → is_true (and_of p q) ≡ (is_true p && is_true q)
is_true-and_of False q = refl
is_true-and_of Unknown False = refl
is_true-and_of Unknown Unknown = refl
is_true-and_of Unknown True = refl
is_true-and_of True q = refl

pub is_false-and_of : (p q : Truth) → is_false (and_of p q) ≡ (is_false p || is_false q)
is_false-and_of False q = refl
is_false-and_of Unknown False = refl
is_false-and_of Unknown Unknown = refl
is_false-and_of Unknown True = refl
is_false-and_of True q = refl

pub is_true-or_of : (p q : Truth) → is_true (or_of p q) ≡ (is_true p || is_true q)
is_true-or_of False q = refl
is_true-or_of Unknown False = refl
is_true-or_of Unknown Unknown = refl
is_true-or_of Unknown True = refl
is_true-or_of True q = refl

pub is_false-or_of : (p q : Truth) → is_false (or_of p q) ≡ (is_false p && is_false q)
is_false-or_of False q = refl
is_false-or_of Unknown False = refl
is_false-or_of Unknown Unknown = refl
is_false-or_of Unknown True = refl
is_false-or_of True q = refl

-- no truth value is both
pub never_both : (p : Truth) → (is_true p && is_false p) ≡ false
never_both False = refl
never_both Unknown = refl
never_both True = refl
