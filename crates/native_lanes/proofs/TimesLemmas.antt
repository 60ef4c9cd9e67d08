-- A sum of so many numbers of 64 bits fits 128 bits, and so does a number as many times as some of 1024 rows.
use Rattle.std.proofs.Common.{◌≡◌, ℕ, zero, suc, ◌+◌, ◌*◌, ◌^◌, ◌<◌, ◌≤◌, Bool, true, false, cond, ℤ, pos, neg_ℤ, ◌+ℤ◌, ◌*ℤ◌, ◌≤ℤ◌, FitsSigned, sym, ap, ◌∙◌, subst, arith}
use Rattle.std.specs.Int.{w64, w128}
use Rattle.std.proofs.lemmas.Int.{ints}
use Rattle.transpose_order.specs.Mask.{count_below}
use Rattle.transpose_order.proofs.MaskLemmas.{count_below-zero, count_below-suc}
use Rattle.native_lanes.specs.Folds.{fold_to}
use Rattle.native_lanes.proofs.FoldLemmas.{fold_to-zero, fold_to-suc}

one_more : (b : Bool) (v s : ℤ) (n : ℕ) → s ≡ v *ℤ pos n → s +ℤ cond b v (pos 0) ≡ v *ℤ pos (n + cond b 1 0)
one_more true v s n e = grind (arith, ints)
one_more false v s n e = omega (arith, ints, e)

pub sum_of_one : (v : ℤ) (b : ℕ → Bool) (k : ℕ) → fold_to ◌+ℤ◌ (pos 0) k (λ i. cond (b i) v (pos 0)) ≡ v *ℤ pos (count_below b k)
sum_of_one v b zero =
    fold_to-zero ◌+ℤ◌ (pos 0) (λ i. cond (b i) v (pos 0)) ∙ sym (ap (λ n. v *ℤ pos n) (count_below-zero b) ∙ omega (arith, ints))
sum_of_one v b (suc k) =
    fold_to-suc ◌+ℤ◌ (pos 0) k (λ i. cond (b i) v (pos 0)) ∙ one_more (b k) v (fold_to ◌+ℤ◌ (pos 0) k (λ i. cond (b i) v (pos 0))) (count_below b k) (sum_of_one v b k)
    ∙ ap (λ n. v *ℤ pos n) (sym (count_below-suc b k))

-- a sum of so many numbers of 64 bits
bounded : (b : Bool) (v s : ℤ) (k : ℕ) → FitsSigned w64 v → (neg_ℤ (pos (2 ^ 63 * k)) ≤ℤ s) × (s ≤ℤ pos (2 ^ 63 * k)) → (neg_ℤ (pos (2 ^ 63 * suc k)) ≤ℤ (s +ℤ cond b v (pos 0))) × ((s +ℤ cond b v (pos 0)) ≤ℤ pos (2 ^ 63 * suc k))
bounded true v s k fits within = (omega (arith, ints, within.0, fits), omega (arith, ints, within.1, fits))
bounded false v s k fits within = (omega (arith, ints, within.0), omega (arith, ints, within.1))

sum_bound : (v : ℕ → ℤ) (b : ℕ → Bool) (k : ℕ) → ((i : ℕ) → i < k → FitsSigned w64 (v i)) → (neg_ℤ (pos (2 ^ 63 * k)) ≤ℤ fold_to ◌+ℤ◌ (pos 0) k (λ i. cond (b i) (v i) (pos 0))) × (fold_to ◌+ℤ◌ (pos 0) k (λ i. cond (b i) (v i) (pos 0)) ≤ℤ pos (2 ^ 63 * k))
sum_bound v b zero fits =
    let e = fold_to-zero ◌+ℤ◌ (pos 0) (λ i. cond (b i) (v i) (pos 0)) in (omega (arith, ints, e), omega (arith, ints, e))
sum_bound v b (suc k) fits =
    let e = fold_to-suc ◌+ℤ◌ (pos 0) k (λ i. cond (b i) (v i) (pos 0)) in
    let more = bounded (b k) (v k) (fold_to ◌+ℤ◌ (pos 0) k (λ i. cond (b i) (v i) (pos 0))) k (fits k (omega arith)) (sum_bound v b k (λ i l. fits i (omega arith))) in
    (subst (λ z. neg_ℤ (pos (2 ^ 63 * suc k)) ≤ℤ z) (sym e) more.0, subst (λ z. z ≤ℤ pos (2 ^ 63 * suc k)) (sym e) more.1)

pub sum_fits : (v : ℕ → ℤ) (b : ℕ → Bool) (k : ℕ) → k ≤ 1024 → ((i : ℕ) → i < k → FitsSigned w64 (v i)) → FitsSigned w128 (fold_to ◌+ℤ◌ (pos 0) k (λ i. cond (b i) (v i) (pos 0)))
sum_fits v b k h fits = let within = sum_bound v b k fits in record { sfits = (let l = within.0 in let u = within.1 in grind (arith, ints)) }

-- so many times a number of 64 bits is at most so many times 2 ^ 63, above and below 0
pub times_bound : (v : ℤ) (n : ℕ) → FitsSigned w64 v → (neg_ℤ (pos (2 ^ 63 * n)) ≤ℤ (v *ℤ pos n)) × ((v *ℤ pos n) ≤ℤ pos (2 ^ 63 * n))
times_bound v n fits =
    let is : fold_to ◌+ℤ◌ (pos 0) n (λ _. v) ≡ v *ℤ pos n = sum_of_one v (λ _. true) n ∙ ap (λ k. v *ℤ pos k) (count_all n) in
    let within = sum_bound (λ _. v) (λ _. true) n (λ _ _. fits) in
    (subst (λ z. neg_ℤ (pos (2 ^ 63 * n)) ≤ℤ z) is within.0, subst (λ z. z ≤ℤ pos (2 ^ 63 * n)) is within.1)
  where
    count_all : (n : ℕ) → count_below (λ _. true) n ≡ n
    count_all zero = count_below-zero (λ _. true)
    count_all (suc n) = count_below-suc (λ _. true) n ∙ omega (arith, count_all n)

pub times_fits : (v : ℤ) (n : ℕ) → n ≤ 1024 → FitsSigned w64 v → FitsSigned w128 (v *ℤ pos n)
times_fits v n h fits = let within = times_bound v n fits in record { sfits = (let l = within.0 in let u = within.1 in grind (arith, ints)) }
