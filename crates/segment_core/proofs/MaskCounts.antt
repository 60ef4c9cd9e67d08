-- A null mask by its counts: it has a row below a limit, and none from there on.
use Rattle.std.proofs.Common.{◌≡◌, ℕ, zero, suc, ◌+◌, ◌-◌, ◌<◌, ◌≤◌, Bool, true, false, cond, ltb, eqb, ◌⊎◌, inl, inr, List, length, refl, sym, ap, subst, ◌∙◌, arith}
use Rattle.std.proofs.lemmas.Bool.{ltb-true, lt-ltb, eqb-true, eq-eqb, and_parts, and_from, cases_lt, cases_Bool}
use Rattle.std.proofs.lemmas.List.{get_or_past}
use Rattle.transpose_order.specs.Mask.{has, count_below}
use Rattle.transpose_order.proofs.MaskLemmas.{count_below-suc, count_below-zero}
use Rattle.segment_core.specs.CodedVector.{IsNullMask}
use Rattle.segment_core.specs.VectorBytes.{is_null_mask}

-- what is counted is there
found_at : (p : ℕ → Bool) (n : ℕ) → 0 < count_below p n + cond {A = ℕ} (p n) 1 0 → ((0 < count_below p n) → (k : ℕ) × (k < n) × (p k ≡ true)) → (p n ≡ true) ⊎ (p n ≡ false) → (k : ℕ) × (k < suc n) × (p k ≡ true)
found_at p n some before (inl here) = (n, omega arith, here)
found_at p n some before (inr absent) =
    let more : 0 < count_below p n + cond {A = ℕ} false 1 0 = subst (λ (b : Bool). 0 < count_below p n + cond {A = ℕ} b 1 0) absent some in
    let k = before (omega arith) in
    (k.0, omega (arith, k.1), k.2)

found : (p : ℕ → Bool) (n : ℕ) → 0 < count_below p n → (k : ℕ) × (k < n) × (p k ≡ true)
found p zero some = absurd (omega (arith, count_below-zero p))
found p (suc n) some =
    let more : 0 < count_below p n + cond {A = ℕ} (p n) 1 0 = subst (λ (c : ℕ). 0 < c) (count_below-suc p n) some in
    found_at p n more (λ h. found p n h) (cases_Bool (p n))

-- what is there is counted
counted_at : (p : ℕ → Bool) (n k : ℕ) → k < suc n → p k ≡ true → (k < n → 0 < count_below p n) → (k < n) ⊎ (n ≤ k) → 0 < count_below p n + cond {A = ℕ} (p n) 1 0
counted_at p n k below here before (inl inside) = omega (arith, before inside)
counted_at p n k below here before (inr last) =
    let same : k ≡ n = omega arith in
    let one : cond {A = ℕ} (p n) 1 0 ≡ 1 = ap (λ (b : Bool). cond {A = ℕ} b 1 0) (ap p (sym same) ∙ here) in
    omega arith

counted : (p : ℕ → Bool) (n k : ℕ) → k < n → p k ≡ true → 0 < count_below p n
counted p zero k below here = absurd (omega arith)
counted p (suc n) k below here = rw (count_below-suc p n) (counted_at p n k below here (λ before. counted p n k before here) (cases_lt k n))

-- a count never falls
rises : (p : ℕ → Bool) (m d : ℕ) → count_below p m ≤ count_below p (m + d)
rises p m zero = let e : m + 0 ≡ m = omega arith in rw e (omega arith)
rises p m (suc d) =
    let e : m + suc d ≡ suc (m + d) = omega arith in
    rw (e, count_below-suc p (m + d)) (omega (arith, rises p m d))

-- a row that is there makes the count greater from there on
grows : (p : ℕ → Bool) (m k n : ℕ) → m ≤ k → k < n → p k ≡ true → count_below p m < count_below p n
grows p m k n from below here =
    let at : m + (k - m) ≡ k = omega arith in
    let past : suc k + (n - suc k) ≡ n = omega arith in
    let one : cond {A = ℕ} (p k) 1 0 ≡ 1 = ap (λ (b : Bool). cond {A = ℕ} b 1 0) here in
    let before : count_below p m ≤ count_below p k = subst (λ (x : ℕ). count_below p m ≤ count_below p x) at (rises p m (k - m)) in
    let after : count_below p (suc k) ≤ count_below p n = subst (λ (x : ℕ). count_below p (suc k) ≤ count_below p x) past (rises p (suc k) (n - suc k)) in
    omega (arith, count_below-suc p k)

-- where nothing is there the count stays
stays : (p : ℕ → Bool) (m d : ℕ) → ((k : ℕ) → m ≤ k → p k ≡ false) → count_below p (m + d) ≡ count_below p m
stays p m zero none = let e : m + 0 ≡ m = omega arith in rw e refl
stays p m (suc d) none =
    let e : m + suc d ≡ suc (m + d) = omega arith in
    let none_here : cond {A = ℕ} (p (m + d)) 1 0 ≡ 0 = ap (λ (b : Bool). cond {A = ℕ} b 1 0) (none (m + d) (omega arith)) in
    rw (e, count_below-suc p (m + d)) (omega (arith, stays p m d none))

absent : (rows : ℕ) (mask : List Bool) (n : ℕ) → length mask ≡ 1024 → count_below (has mask) rows ≡ count_below (has mask) 1024 → rows ≤ n
    → (has mask n ≡ true) ⊎ (has mask n ≡ false) → (n < 1024) ⊎ (1024 ≤ n) → has mask n ≡ false
absent rows mask n long same past (inr nothing) place = nothing
absent rows mask n long same past (inl here) (inl below) = absurd (omega (arith, grows (has mask) rows n 1024 past below here))
absent rows mask n long same past (inl here) (inr beyond) = get_or_past mask n false (omega arith)

pub tested_is_null_mask : (rows : ℕ) (mask : List Bool) → length mask ≡ 1024 → is_null_mask rows mask ≡ true → IsNullMask rows mask
tested_is_null_mask rows mask long e =
    let v = and_parts (ltb 0 (count_below (has mask) rows)) (eqb (count_below (has mask) rows) (count_below (has mask) 1024)) e in
    let f = found (has mask) rows (ltb-true _ _ v.0) in
    record {
      long = long;
      one = f;
      past = λ n past. absent rows mask n long (eqb-true _ _ v.1) past (cases_Bool (has mask n)) (cases_lt n 1024);
    }

pub null_mask_is_tested : (rows : ℕ) (mask : List Bool) → rows ≤ 1024 → IsNullMask rows mask → is_null_mask rows mask ≡ true
null_mask_is_tested rows mask limit h =
    let whole : rows + (1024 - rows) ≡ 1024 = omega arith in
    let same : count_below (has mask) 1024 ≡ count_below (has mask) rows = subst (λ (n : ℕ). count_below (has mask) n ≡ count_below (has mask) rows) whole (stays (has mask) rows (1024 - rows) h.past) in
    and_from (ltb 0 (count_below (has mask) rows)) (eqb (count_below (has mask) rows) (count_below (has mask) 1024)) (lt-ltb _ _ (counted (has mask) rows h.one.0 h.one.1 h.one.2)) (eq-eqb _ _ (sym same))
