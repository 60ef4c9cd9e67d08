-- The least of some numbers is below each of them and is one of them, and nothing else is.
use Rattle.std.proofs.Common.{◌≡◌, ℕ, zero, suc, ◌<◌, ◌≤◌, ℤ, ◌≤ℤ◌, int_lt, ◌↔◌, Bool, true, false, cond, ◌⊎◌, inl, inr, refl, sym, ap, ◌∙◌, subst, arith}
use Rattle.std.specs.Int.{int_min, int_max}
use Rattle.std.proofs.lemmas.Int.{ints, clamps}
use Rattle.std.proofs.lemmas.Bool.{false≢true, cases_lt}
use Rattle.frame_delta.specs.Extremes.{least_among, greatest_among, IsLeastAmong, IsGreatestAmong}

pub least_among-zero : (p : ℕ → Bool) (f : ℕ → ℤ) (first : ℤ) → least_among p f first 0 ≡ first
unfolding least_among
least_among-zero p f first = refl

pub least_among-suc : (p : ℕ → Bool) (f : ℕ → ℤ) (first : ℤ) (k : ℕ) → least_among p f first (suc k) ≡ cond (p k) (int_min (least_among p f first k) (f k)) (least_among p f first k)
unfolding least_among
least_among-suc p f first k = refl

pub greatest_among-zero : (p : ℕ → Bool) (f : ℕ → ℤ) (first : ℤ) → greatest_among p f first 0 ≡ first
unfolding greatest_among
greatest_among-zero p f first = refl

pub greatest_among-suc : (p : ℕ → Bool) (f : ℕ → ℤ) (first : ℤ) (k : ℕ) → greatest_among p f first (suc k) ≡ cond (p k) (int_max (greatest_among p f first k) (f k)) (greatest_among p f first k)
unfolding greatest_among
greatest_among-suc p f first k = refl

-- is the first, or one that passes
abbrev pub IsOne : (ℕ → Bool) → (ℕ → ℤ) → ℤ → ℕ → ℤ → Type 0
IsOne p f first k x = (x ≡ first) ⊎ ((n : ℕ) × (n < k) × (p n ≡ true) × (x ≡ f n))

IsOne-more : (p : ℕ → Bool) (f : ℕ → ℤ) (first : ℤ) (k : ℕ) (x : ℤ) → IsOne p f first k x → IsOne p f first (suc k) x
IsOne-more p f first k x (inl e) = inl e
IsOne-more p f first k x (inr w) = inr (w.0, omega arith, w.2, w.3)

-- ---- the least
-- is below the first, and below each that passes
pub record IsLow (p : ℕ → Bool) (f : ℕ → ℤ) (first : ℤ) (k : ℕ) (x : ℤ) : Type 0 where
  pub first_bound : x ≤ℤ first
  pub each_bound : (n : ℕ) → n < k → p n ≡ true → x ≤ℤ f n

min_bound : (x y : ℤ) → (int_min x y ≤ℤ x) × (int_min x y ≤ℤ y)
min_bound x y = (omega (arith, ints, clamps), omega (arith, ints, clamps))

least_step : (p : ℕ → Bool) (f : ℕ → ℤ) (first : ℤ) (k : ℕ) (x : ℤ) (b : Bool) → p k ≡ b → IsLow p f first k x → IsLow p f first (suc k) (cond b (int_min x (f k)) x)
least_step p f first k x true e h =
    let m = min_bound x (f k) in
    record {
      first_bound = min_chain_first;
      each_bound = λ n l pass. each n l pass (cases_lt n k);
    }
  where
    min_chain_first : int_min x (f k) ≤ℤ first
    min_chain_first = omega (arith, ints, h.first_bound, min_bound x (f k))

    each : (n : ℕ) → n < suc k → p n ≡ true → (n < k) ⊎ (k ≤ n) → int_min x (f k) ≤ℤ f n
    each n l pass (inl before) = omega (arith, ints, h.each_bound n before pass, (min_bound x (f k)).0)
    each n l pass (inr last) =
        let here : k ≡ n = omega arith in
        subst (λ (i : ℕ). int_min x (f k) ≤ℤ f i) here (min_bound x (f k)).1
least_step p f first k x false e h =
    record {
      first_bound = h.first_bound;
      each_bound = λ n l pass. each n l pass (cases_lt n k);
    }
  where
    each : (n : ℕ) → n < suc k → p n ≡ true → (n < k) ⊎ (k ≤ n) → x ≤ℤ f n
    each n l pass (inl before) = h.each_bound n before pass
    each n l pass (inr last) =
        let here : n ≡ k = omega arith in
        absurd (false≢true (sym e ∙ ap p (sym here) ∙ pass))

pub least_among-bound : (p : ℕ → Bool) (f : ℕ → ℤ) (first : ℤ) (k : ℕ) → IsLow p f first k (least_among p f first k)
least_among-bound p f first zero =
    rw (least_among-zero p f first) (record { first_bound = omega (arith, ints); each_bound = λ n l _. absurd (omega arith) })
least_among-bound p f first (suc k) =
    rw (least_among-suc p f first k) (least_step p f first k (least_among p f first k) (p k) refl (least_among-bound p f first k))

either_one : (x y : ℤ) (b : Bool) → (cond b y x ≡ x) ⊎ (cond b y x ≡ y)
either_one x y true = inr refl
either_one x y false = inl refl

least_one_step : (p : ℕ → Bool) (f : ℕ → ℤ) (first : ℤ) (k : ℕ) (x : ℤ) (b : Bool) → p k ≡ b → IsOne p f first k x → IsOne p f first (suc k) (cond b (int_min x (f k)) x)
least_one_step p f first k x false e one = IsOne-more p f first k x one
least_one_step p f first k x true e one = pick (either_one x (f k) (int_lt (f k) x))
  where
    pick : (int_min x (f k) ≡ x) ⊎ (int_min x (f k) ≡ f k) → IsOne p f first (suc k) (int_min x (f k))
    pick (inl old) = subst (λ (y : ℤ). IsOne p f first (suc k) y) (sym old) (IsOne-more p f first k x one)
    pick (inr new) = inr (k, omega arith, e, new)

pub least_among-one : (p : ℕ → Bool) (f : ℕ → ℤ) (first : ℤ) (k : ℕ) → IsOne p f first k (least_among p f first k)
least_among-one p f first zero = inl (least_among-zero p f first)
least_among-one p f first (suc k) =
    rw (least_among-suc p f first k) (least_one_step p f first k (least_among p f first k) (p k) refl (least_among-one p f first k))

-- nothing else is both
pub least_among-unique : (p : ℕ → Bool) (f : ℕ → ℤ) (first : ℤ) (k : ℕ) (x : ℤ) → IsLow p f first k x → IsOne p f first k x → least_among p f first k ≡ x
least_among-unique p f first k x low one =
    omega (arith, ints, one_bound (least_among p f first k) x (least_among-bound p f first k) one, one_bound x (least_among p f first k) low (least_among-one p f first k))
  where
    one_bound : (y z : ℤ) → IsLow p f first k y → IsOne p f first k z → y ≤ℤ z
    one_bound y z low (inl e) = subst (λ (v : ℤ). y ≤ℤ v) (sym e) low.first_bound
    one_bound y z low (inr w) = subst (λ (v : ℤ). y ≤ℤ v) (sym w.3) (low.each_bound w.0 w.1 w.2)

-- ---- the greatest
-- is above the first, and above each that passes
pub record IsHigh (p : ℕ → Bool) (f : ℕ → ℤ) (first : ℤ) (k : ℕ) (x : ℤ) : Type 0 where
  pub first_bound : first ≤ℤ x
  pub each_bound : (n : ℕ) → n < k → p n ≡ true → f n ≤ℤ x

max_bound : (x y : ℤ) → (x ≤ℤ int_max x y) × (y ≤ℤ int_max x y)
max_bound x y = (omega (arith, ints, clamps), omega (arith, ints, clamps))

greatest_step : (p : ℕ → Bool) (f : ℕ → ℤ) (first : ℤ) (k : ℕ) (x : ℤ) (b : Bool) → p k ≡ b → IsHigh p f first k x → IsHigh p f first (suc k) (cond b (int_max x (f k)) x)
greatest_step p f first k x true e h =
    let m = max_bound x (f k) in
    record {
      first_bound = max_chain_first;
      each_bound = λ n l pass. each n l pass (cases_lt n k);
    }
  where
    max_chain_first : first ≤ℤ int_max x (f k)
    max_chain_first = omega (arith, ints, h.first_bound, max_bound x (f k))

    each : (n : ℕ) → n < suc k → p n ≡ true → (n < k) ⊎ (k ≤ n) → f n ≤ℤ int_max x (f k)
    each n l pass (inl before) = omega (arith, ints, h.each_bound n before pass, (max_bound x (f k)).0)
    each n l pass (inr last) =
        let here : k ≡ n = omega arith in
        subst (λ (i : ℕ). f i ≤ℤ int_max x (f k)) here (max_bound x (f k)).1
greatest_step p f first k x false e h =
    record {
      first_bound = h.first_bound;
      each_bound = λ n l pass. each n l pass (cases_lt n k);
    }
  where
    each : (n : ℕ) → n < suc k → p n ≡ true → (n < k) ⊎ (k ≤ n) → f n ≤ℤ x
    each n l pass (inl before) = h.each_bound n before pass
    each n l pass (inr last) =
        let here : n ≡ k = omega arith in
        absurd (false≢true (sym e ∙ ap p (sym here) ∙ pass))

pub greatest_among-bound : (p : ℕ → Bool) (f : ℕ → ℤ) (first : ℤ) (k : ℕ) → IsHigh p f first k (greatest_among p f first k)
greatest_among-bound p f first zero =
    rw (greatest_among-zero p f first) (record { first_bound = omega (arith, ints); each_bound = λ n l _. absurd (omega arith) })
greatest_among-bound p f first (suc k) =
    rw (greatest_among-suc p f first k) (greatest_step p f first k (greatest_among p f first k) (p k) refl (greatest_among-bound p f first k))

greatest_one_step : (p : ℕ → Bool) (f : ℕ → ℤ) (first : ℤ) (k : ℕ) (x : ℤ) (b : Bool) → p k ≡ b → IsOne p f first k x → IsOne p f first (suc k) (cond b (int_max x (f k)) x)
greatest_one_step p f first k x false e one = IsOne-more p f first k x one
greatest_one_step p f first k x true e one = pick (either_one (f k) x (int_lt (f k) x))
  where
    pick : (int_max x (f k) ≡ f k) ⊎ (int_max x (f k) ≡ x) → IsOne p f first (suc k) (int_max x (f k))
    pick (inr old) = subst (λ (y : ℤ). IsOne p f first (suc k) y) (sym old) (IsOne-more p f first k x one)
    pick (inl new) = inr (k, omega arith, e, new)

pub greatest_among-one : (p : ℕ → Bool) (f : ℕ → ℤ) (first : ℤ) (k : ℕ) → IsOne p f first k (greatest_among p f first k)
greatest_among-one p f first zero = inl (greatest_among-zero p f first)
greatest_among-one p f first (suc k) =
    rw (greatest_among-suc p f first k) (greatest_one_step p f first k (greatest_among p f first k) (p k) refl (greatest_among-one p f first k))

-- nothing else is both
pub greatest_among-unique : (p : ℕ → Bool) (f : ℕ → ℤ) (first : ℤ) (k : ℕ) (x : ℤ) → IsHigh p f first k x → IsOne p f first k x → greatest_among p f first k ≡ x
greatest_among-unique p f first k x low one =
    omega (arith, ints, one_bound (greatest_among p f first k) x (greatest_among-bound p f first k) one, one_bound x (greatest_among p f first k) low (greatest_among-one p f first k))
  where
    one_bound : (y z : ℤ) → IsHigh p f first k y → IsOne p f first k z → z ≤ℤ y
    one_bound y z low (inl e) = subst (λ (v : ℤ). v ≤ℤ y) (sym e) low.first_bound
    one_bound y z low (inr w) = subst (λ (v : ℤ). v ≤ℤ y) (sym w.3) (low.each_bound w.0 w.1 w.2)

-- ---- the laws
some_one : (p : ℕ → Bool) (f : ℕ → ℤ) (m k : ℕ) (x : ℤ) → m < k → p m ≡ true → IsOne p f (f m) k x → (n : ℕ) × (n < k) × (p n ≡ true) × (x ≡ f n)
some_one p f m k x within pass (inl e) = (m, within, pass, e)
some_one p f m k x within pass (inr w) = w

least_is : (p : ℕ → Bool) (f : ℕ → ℤ) (m k : ℕ) → m < k → p m ≡ true → IsLeastAmong p f k (least_among p f (f m) k)
least_is p f m k within pass = record {
  bound = (least_among-bound p f (f m) k).each_bound;
  reached = some_one p f m k (least_among p f (f m) k) within pass (least_among-one p f (f m) k);
}

pub least_among_is_least : (p : ℕ → Bool) (f : ℕ → ℤ) (m k : ℕ) → m < k → p m ≡ true → (x : ℤ) → (x ≡ least_among p f (f m) k) ↔ IsLeastAmong p f k x
least_among_is_least p f m k within pass x = (
  λ e. subst (λ (z : ℤ). IsLeastAmong p f k z) (sym e) (least_is p f m k within pass),
  λ h. sym (least_among-unique p f (f m) k x (record { first_bound = h.bound m within pass; each_bound = h.bound }) (inr h.reached)),
)

greatest_is : (p : ℕ → Bool) (f : ℕ → ℤ) (m k : ℕ) → m < k → p m ≡ true → IsGreatestAmong p f k (greatest_among p f (f m) k)
greatest_is p f m k within pass = record {
  bound = (greatest_among-bound p f (f m) k).each_bound;
  reached = some_one p f m k (greatest_among p f (f m) k) within pass (greatest_among-one p f (f m) k);
}

pub greatest_among_is_greatest : (p : ℕ → Bool) (f : ℕ → ℤ) (m k : ℕ) → m < k → p m ≡ true → (x : ℤ) → (x ≡ greatest_among p f (f m) k) ↔ IsGreatestAmong p f k x
greatest_among_is_greatest p f m k within pass x = (
  λ e. subst (λ (z : ℤ). IsGreatestAmong p f k z) (sym e) (greatest_is p f m k within pass),
  λ h. sym (greatest_among-unique p f (f m) k x (record { first_bound = h.bound m within pass; each_bound = h.bound }) (inr h.reached)),
)
