-- A count of the numbers below n that pass a test rises by one at each that does, so each count below it is reached.
use Rattle.std.proofs.Common.{◌≡◌, ℕ, zero, suc, ◌+◌, ◌-◌, ◌<◌, ◌≤◌, Bool, true, false, cond, ◌⊎◌, inl, inr, refl, sym, ap, ◌∙◌, arith}
use Rattle.std.proofs.lemmas.Bool.{cases_lt, cases_Bool}
use Rattle.transpose_order.specs.Mask.{count_below}
use Rattle.transpose_order.proofs.MaskLemmas.{count_below-zero, count_below-suc, count_below-add, count_below-same}

pub count_below-yes : (p : ℕ → Bool) (n : ℕ) → p n ≡ true → count_below p (suc n) ≡ count_below p n + 1
count_below-yes p n h = count_below-suc p n ∙ ap (λ b. count_below p n + cond b 1 0) h

pub count_below-no : (p : ℕ → Bool) (n : ℕ) → p n ≡ false → count_below p (suc n) ≡ count_below p n
count_below-no p n h = count_below-suc p n ∙ ap (λ b. count_below p n + cond b 1 0) h ∙ omega arith

pub count_below-rises : (p : ℕ → Bool) (m n : ℕ) → m ≤ n → count_below p m ≤ count_below p n
count_below-rises p m n h =
    let whole : m + (n - m) ≡ n = omega arith in
    let e : count_below p n ≡ count_below p m + count_below (λ i. p (m + i)) (n - m) = ap (count_below p) (sym whole) ∙ count_below-add p m (n - m) in
    omega (arith, e)

none_pass : (n : ℕ) → count_below (λ _. false) n ≡ 0
none_pass zero = count_below-zero (λ _. false)
none_pass (suc n) = count_below-no (λ _. false) n refl ∙ none_pass n

-- where no number from m on passes, the count stays
pub count_below-stays : (p : ℕ → Bool) (m n : ℕ) → m ≤ n → ((i : ℕ) → m ≤ i → i < n → p i ≡ false) → count_below p n ≡ count_below p m
count_below-stays p m n h none =
    let whole : m + (n - m) ≡ n = omega arith in
    let rest : count_below (λ i. p (m + i)) (n - m) ≡ 0 = count_below-same (λ i. p (m + i)) (λ _. false) (n - m) (λ i l. none (m + i) (omega arith) (omega arith)) ∙ none_pass (n - m) in
    let e : count_below p n ≡ count_below p m + count_below (λ i. p (m + i)) (n - m) = ap (count_below p) (sym whole) ∙ count_below-add p m (n - m) in
    omega (arith, e, rest)

-- a test that passes wherever another does passes as often at least
pub count_below-implies : (p q : ℕ → Bool) (n : ℕ) → ((i : ℕ) → i < n → p i ≡ true → q i ≡ true) → count_below p n ≤ count_below q n
count_below-implies p q zero h = rw (count_below-zero p) (omega arith)
count_below-implies p q (suc n) h =
    let front : count_below p n ≤ count_below q n = count_below-implies p q n (λ i l e. h i (omega arith) e) in
    by_last (cases_Bool (p n)) front
  where
    by_last : (p n ≡ true) ⊎ (p n ≡ false) → count_below p n ≤ count_below q n → count_below p (suc n) ≤ count_below q (suc n)
    by_last (inl e) front = omega (arith, count_below-yes p n e, count_below-yes q n (h n (omega arith) e))
    by_last (inr e) front = omega (arith, count_below-no p n e, count_below-rises q n (suc n) (omega arith))

-- the number that passes as the k-th
pub count_below-reached : (p : ℕ → Bool) (n k : ℕ) → k < count_below p n → (i : ℕ) × (i < n) × (p i ≡ true) × (count_below p i ≡ k)
count_below-reached p zero k h = absurd (omega (arith, count_below-zero p))
count_below-reached p (suc n) k h =
    by_place (cases_lt k (count_below p n)) (cases_Bool (p n)) (λ l. let r = count_below-reached p n k l in (r.0, omega (arith, r.1), r.2, r.3))
  where
    by_place : (k < count_below p n) ⊎ (count_below p n ≤ k) → (p n ≡ true) ⊎ (p n ≡ false) → (k < count_below p n → (i : ℕ) × (i < suc n) × (p i ≡ true) × (count_below p i ≡ k)) → (i : ℕ) × (i < suc n) × (p i ≡ true) × (count_below p i ≡ k)
    by_place (inl l) _ earlier = earlier l
    by_place (inr l) (inl e) _ = (n, omega arith, e, omega (arith, count_below-yes p n e))
    by_place (inr l) (inr e) _ = absurd (omega (arith, count_below-no p n e))
