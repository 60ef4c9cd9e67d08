-- A fold over the rows of a run, which have one value, from how many of them are taken.
use Rattle.std.proofs.Common.{◌≡◌, ℕ, zero, suc, ◌+◌, ◌-◌, ◌<◌, ◌≤◌, Bool, true, false, cond, nat_lt, ℤ, pos, ◌+ℤ◌, ◌*ℤ◌, List, length, Option, Some, None, FitsSigned, refl, sym, ap, ◌∙◌, arith}
use Rattle.std.specs.Int.{int_max, w64}
use Rattle.std.proofs.lemmas.Int.{ints, clamps}
use Rattle.std.proofs.lemmas.Bool.Decides.{nat_tests}
use Rattle.table_model.specs.Values.{greater}
use Rattle.transpose_order.specs.Mask.{rows_of, has, truth_at, count_below}
use Rattle.transpose_order.proofs.MaskLemmas.{count_below-zero, count_below-suc, count_below-add, count_below-same, has-words}
use Rattle.bit_interleave.specs.Range.{value_at}
use Rattle.run_dictionary.specs.Runs.{RunForm, IsRunForm, run_of, run_value}
use Rattle.native_lanes.specs.Folds.{fold_to}
use Rattle.native_lanes.proofs.FoldLemmas.{fold_to-zero, fold_to-suc, fold_to-same, fold_to-add}
use Rattle.native_lanes.proofs.TimesLemmas.{sum_of_one}
use Rattle.fused_kernels.proofs.SumLemmas.{sum_is_join}
use Rattle.table_model.specs.declared.extreme.Extreme.{Extreme}
use Rattle.table_model.specs.Extreme.{further, turned}
use Rattle.fused_kernels.proofs.ExtremeLemmas.{bottom, greater_is_join, turned_fits, turned_cell, turned_rows}

-- the rows of a mask counted in its words
pub counted_in_words : (words : List ℕ) (mask : List Bool) (end : ℕ) → rows_of (truth_at words) ≡ mask → end ≤ 1024 → count_below (truth_at words) end ≡ count_below (has mask) end
counted_in_words words mask end is within = count_below-same (truth_at words) (has mask) end (λ i l. sym (has-words words mask is i (omega (arith, l, within))))

-- ---- sums
-- the rows of a run, after those before it
pub sum_more : (f : ℕ → ℤ) (b : ℕ → Bool) (v : ℤ) (row end : ℕ) → row ≤ end → ((n : ℕ) → row ≤ n → n < end → f n ≡ cond (b n) v (pos 0)) → fold_to ◌+ℤ◌ (pos 0) row f +ℤ (v *ℤ pos (count_below b end - count_below b row)) ≡ fold_to ◌+ℤ◌ (pos 0) end f
sum_more f b v row end order same =
    let d = end - row in
    let whole : row + d ≡ end = omega arith in
    let count : count_below b end ≡ count_below b row + count_below (λ i. b (row + i)) d = ap (count_below b) (sym whole) ∙ count_below-add b row d in
    let more : count_below b end - count_below b row ≡ count_below (λ i. b (row + i)) d = omega (arith, count) in
    ap (λ k. fold_to ◌+ℤ◌ (pos 0) row f +ℤ (v *ℤ pos k)) more
    ∙ ap (λ z. fold_to ◌+ℤ◌ (pos 0) row f +ℤ z) (sym (sum_of_one v (λ i. b (row + i)) d))
    ∙ ap (λ z. fold_to ◌+ℤ◌ (pos 0) row f +ℤ z) (sym (fold_to-same ◌+ℤ◌ (pos 0) d (λ i. f (row + i)) (λ i. cond (b (row + i)) v (pos 0)) (λ i l. same (row + i) (omega arith) (omega arith))))
    ∙ sym (fold_to-add ◌+ℤ◌ (pos 0) sum_is_join row d f) ∙ ap (λ k. fold_to ◌+ℤ◌ (pos 0) k f) whole

-- ---- the greatest
greatest_one_more : (b : Bool) (v : ℤ) (n : ℕ) → greater (cond (nat_lt 0 n) (Some v) None) (cond b (Some v) None) ≡ cond (nat_lt 0 (n + cond b 1 0)) (Some v) None
greatest_one_more b v zero = by_truth b
  where
    by_truth : (b : Bool) → cond b (Some v) None ≡ cond (nat_lt 0 (0 + cond b 1 0)) (Some v) None
    by_truth true = refl
    by_truth false = refl
greatest_one_more true v (suc n) =
    let on : nat_lt 0 (suc n + 1) ≡ true = grind (arith, nat_tests) in
    let was : nat_lt 0 (suc n) ≡ true = grind (arith, nat_tests) in
    ap (λ t. greater (cond t (Some v) None) (Some v)) was ∙ ap Some (let e : int_max v v ≡ v = omega (arith, ints, clamps) in e) ∙ sym (ap (λ t. cond t (Some v) None) on)
greatest_one_more false v (suc n) =
    let on : nat_lt 0 (suc n + 0) ≡ true = grind (arith, nat_tests) in
    let was : nat_lt 0 (suc n) ≡ true = grind (arith, nat_tests) in
    ap (λ t. greater (cond t (Some v) None) None) was ∙ sym (ap (λ t. cond t (Some v) None) on)

pub greatest_of_one : (v : ℤ) (b : ℕ → Bool) (k : ℕ) → fold_to greater None k (λ i. cond (b i) (Some v) None) ≡ cond (nat_lt 0 (count_below b k)) (Some v) None
greatest_of_one v b zero =
    fold_to-zero greater None (λ i. cond (b i) (Some v) None) ∙ sym (ap (λ n. cond (nat_lt 0 n) (Some v) None) (count_below-zero b))
greatest_of_one v b (suc k) =
    fold_to-suc greater None k (λ i. cond (b i) (Some v) None) ∙ ap (λ o. greater o (cond (b k) (Some v) None)) (greatest_of_one v b k)
    ∙ greatest_one_more (b k) v (count_below b k) ∙ ap (λ n. cond (nat_lt 0 n) (Some v) None) (sym (count_below-suc b k))

pub greatest_more : (f : ℕ → Option ℤ) (b : ℕ → Bool) (v : ℤ) (row end : ℕ) (o : Option ℤ) → o ≡ fold_to greater None row f → row ≤ end → ((n : ℕ) → row ≤ n → n < end → f n ≡ cond (b n) (Some v) None) → greater o (cond (nat_lt (count_below b row) (count_below b end)) (Some v) None) ≡ fold_to greater None end f
greatest_more f b v row end o is order same =
    let d = end - row in
    let whole : row + d ≡ end = omega arith in
    let count : count_below b end ≡ count_below b row + count_below (λ i. b (row + i)) d = ap (count_below b) (sym whole) ∙ count_below-add b row d in
    let some : nat_lt (count_below b row) (count_below b end) ≡ nat_lt 0 (count_below (λ i. b (row + i)) d) = grind (arith, nat_tests) in
    ap (λ t. greater o (cond t (Some v) None)) some
    ∙ ap (greater o) (sym (greatest_of_one v (λ i. b (row + i)) d))
    ∙ ap (λ x. greater x (fold_to greater None d (λ i. cond (b (row + i)) (Some v) None))) is
    ∙ ap (greater (fold_to greater None row f)) (sym (fold_to-same greater None d (λ i. f (row + i)) (λ i. cond (b (row + i)) (Some v) None) (λ i l. same (row + i) (omega arith) (omega arith))))
    ∙ sym (fold_to-add greater None greater_is_join row d f) ∙ ap (λ k. fold_to greater None k f) whole

-- ---- all rows
-- the greatest of all rows up to one is that of the runs up to its run
greatest_upto : (form : RunForm) (v : ℕ → ℤ) (n : ℕ) → FitsSigned w64 (v 0)
    → fold_to greater None (suc n) (λ i. Some (v (run_of form.starts i))) ≡ Some (fold_to int_max bottom (suc (run_of form.starts n)) v)
greatest_upto form v zero fits =
    let first : run_of form.starts 0 ≡ 0 = count_below-zero (λ i. has form.starts (suc i)) in
    let greatest : v 0 ≡ int_max bottom (v 0) = omega (arith, ints, clamps) in
    fold_to-suc greater None 0 (λ i. Some (v (run_of form.starts i))) ∙ ap (λ o. greater o (Some (v (run_of form.starts 0)))) (fold_to-zero greater None (λ i. Some (v (run_of form.starts i))))
    ∙ ap (λ k. Some (v k)) first
    ∙ ap Some (greatest ∙ ap (λ z. int_max z (v 0)) (sym (fold_to-zero int_max bottom v)) ∙ sym (fold_to-suc int_max bottom 0 v))
    ∙ ap (λ k. Some (fold_to int_max bottom (suc k) v)) (sym first)
greatest_upto form v (suc n) fits =
    let r = run_of form.starts n in
    fold_to-suc greater None (suc n) (λ i. Some (v (run_of form.starts i))) ∙ ap (λ o. greater o (Some (v (run_of form.starts (suc n))))) (greatest_upto form v n fits)
    ∙ ap (λ k. Some (int_max (fold_to int_max bottom (suc r) v) (v k))) (count_below-suc (λ i. has form.starts (suc i)) n)
    ∙ ap Some (by_start (has form.starts (suc n)) r)
    ∙ ap (λ k. Some (fold_to int_max bottom (suc k) v)) (sym (count_below-suc (λ i. has form.starts (suc i)) n))
  where
    twice : (x y : ℤ) → int_max (int_max x y) y ≡ int_max x y
    twice x y = omega (arith, ints, clamps)

    by_start : (b : Bool) (r : ℕ) → int_max (fold_to int_max bottom (suc r) v) (v (r + cond b 1 0)) ≡ fold_to int_max bottom (suc (r + cond b 1 0)) v
    by_start true r =
        let here : suc r ≡ r + 1 = omega arith in
        ap (λ k. int_max (fold_to int_max bottom k v) (v (r + 1))) here ∙ sym (fold_to-suc int_max bottom (r + 1) v)
    by_start false r =
        let more = fold_to-suc int_max bottom r v in
        let here : r + 0 ≡ r = omega arith in
        ap (λ k. int_max (fold_to int_max bottom (suc r) v) (v k)) here
        ∙ ap (λ z. int_max z (v r)) more ∙ twice (fold_to int_max bottom r v) (v r) ∙ sym more
        ∙ sym (ap (λ k. fold_to int_max bottom (suc k) v) here)

-- the extreme of all rows is that of the runs
pub extreme_of_all_rows : (side : Extreme) (form : RunForm) (b : ℕ → Bool) → IsRunForm form → FitsSigned w64 (value_at form.values 0) → ((n : ℕ) → n < 1024 → b n ≡ true)
    → Some (turned side (fold_to int_max bottom (length form.values) (λ k. turned side (value_at form.values k)))) ≡ fold_to (further side) None 1024 (λ n. cond (b n) (Some (run_value form n)) None)
extreme_of_all_rows side form b is fits all =
    let v : ℕ → ℤ = λ k. turned side (value_at form.values k) in
    let count : length form.values ≡ suc (run_of form.starts 1023) = omega (arith, is.count) in
    ap (λ k. Some (turned side (fold_to int_max bottom k v))) count
    ∙ ap (turned_cell side) (sym (greatest_upto form v 1023 (turned_fits side (value_at form.values 0) fits))
    ∙ sym (fold_to-same greater None 1024 (λ n. cond (b n) (Some (turned side (run_value form n))) None) (λ n. Some (turned side (run_value form n))) (λ n l. ap (λ t. cond t (Some (turned side (run_value form n))) None) (all n l))))
    ∙ sym (turned_rows side b (run_value form) 1024)
