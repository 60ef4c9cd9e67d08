-- The lesser of a value that is reached and one more is reached, and so is the greater.
use Rattle.std.proofs.Common.{◌≡◌, ℕ, ◌<◌, true, false, ℤ, int_lt, ◌≤ℤ◌, ◌<ℤ◌, List, length, ◌⊎◌, inl, inr, ◌∙◌, arith}
use Rattle.std.specs.Int.{int_min, int_max}
use Rattle.std.proofs.lemmas.Int.{ints, clamps}
use Rattle.std.proofs.lemmas.Bool.{cases_Bool}
use Rattle.bit_interleave.specs.Range.{value_at}
use Rattle.run_dictionary.proofs.OrderLemmas.{less_from_test}
use Rattle.run_dictionary.proofs.DictLemmas.{not_less_from_test}

min_first : (x y : ℤ) → x ≤ℤ y → x ≡ int_min x y
min_first x y l = omega (arith, ints, clamps)

min_second : (x y : ℤ) → y <ℤ x → y ≡ int_min x y
min_second x y l = omega (arith, ints, clamps)

max_first : (x y : ℤ) → y <ℤ x → x ≡ int_max x y
max_first x y l = omega (arith, ints, clamps)

max_second : (x y : ℤ) → x ≤ℤ y → y ≡ int_max x y
max_second x y l = omega (arith, ints, clamps)

pub reached_min : (values : List ℤ) (x y : ℤ) (n : ℕ) → n < length values → value_at values n ≡ y → ((i : ℕ) × (i < length values) × (value_at values i ≡ x)) → (i : ℕ) × (i < length values) × (value_at values i ≡ int_min x y)
reached_min values x y n h e old = by_order (cases_Bool (int_lt y x))
  where
    by_order : (int_lt y x ≡ true) ⊎ (int_lt y x ≡ false) → (i : ℕ) × (i < length values) × (value_at values i ≡ int_min x y)
    by_order (inl t) = (n, h, e ∙ min_second x y (less_from_test y x t))
    by_order (inr t) = (old.0, old.1, old.2 ∙ min_first x y (not_less_from_test y x t))

pub reached_max : (values : List ℤ) (x y : ℤ) (n : ℕ) → n < length values → value_at values n ≡ y → ((i : ℕ) × (i < length values) × (value_at values i ≡ x)) → (i : ℕ) × (i < length values) × (value_at values i ≡ int_max x y)
reached_max values x y n h e old = by_order (cases_Bool (int_lt y x))
  where
    by_order : (int_lt y x ≡ true) ⊎ (int_lt y x ≡ false) → (i : ℕ) × (i < length values) × (value_at values i ≡ int_max x y)
    by_order (inl t) = (old.0, old.1, old.2 ∙ max_first x y (less_from_test y x t))
    by_order (inr t) = (n, h, e ∙ max_second x y (not_less_from_test y x t))
