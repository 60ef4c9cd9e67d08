-- One row more.
use Rattle.std.proofs.Common.{◌≡◌, ℕ, ◌+◌, ◌<◌, ◌≤◌, Bool, true, false, cond, ◌&&◌, nat_lt, nat_le, ◌⊎◌, inl, inr, List, sym, ap, ◌∙◌, arith}
use Rattle.std.proofs.Math.Bool.{and-false}
use Rattle.std.proofs.lemmas.Bool.{cases_lt, le-ltb, lt-ltb}
use Rattle.std.proofs.lemmas.Bool.Decides.{nat_tests}
use Rattle.table_model.specs.Truth.{is_true, is_false}
use Rattle.table_model.specs.declared.truth.Truth.{Truth}
use Rattle.table_model.specs.declared.truth.Truth.TheVariants.{False, Unknown, True}
use Rattle.transpose_order.specs.Mask.{rows_of, has}
use Rattle.transpose_order.specs.MaskWords.{has-rows_of, rows_of-like}
use Rattle.query_eval.specs.Below.{passing_below, IsPairBelow}
use Rattle.query_eval.specs.Where.{IsPair}
use Rattle.query_eval.specs.declared.filter.pair.Pair.{Pair}
use Rattle.query_eval.proofs.PairLemmas.{is_yes, is_no}

here_true : (k n : ℕ) → k ≤ n → n ≤ k → (nat_le k n && nat_lt n (k + 1)) ≡ true
here_true k n h l = grind (arith, nat_tests)

here_low : (k n : ℕ) → n < k → (nat_le k n && nat_lt n (k + 1)) ≡ false
here_low k n h = grind (arith, nat_tests)

here_high : (k n : ℕ) → k < n → (nat_le k n && nat_lt n (k + 1)) ≡ false
here_high k n h = grind (arith, nat_tests)

kept : (q : ℕ → Bool) (k n : ℕ) → q k ≡ false → (nat_lt n k && q n) ≡ (nat_lt n (k + 1) && q n)
kept q k n e = first (cases_lt n k)
  where
    same : n ≡ k → (nat_lt n k && q n) ≡ (nat_lt n (k + 1) && q n)
    same h = let none : q n ≡ false = ap q h ∙ e in ap (λ b. nat_lt n k && b) none ∙ and-false (nat_lt n k) ∙ sym (ap (λ b. nat_lt n (k + 1) && b) none ∙ and-false (nat_lt n (k + 1)))

    second : k ≤ n → (k < n) ⊎ (n ≤ k) → (nat_lt n k && q n) ≡ (nat_lt n (k + 1) && q n)
    second g (inl l) = ap (λ b. b && q n) (le-ltb n k g ∙ sym (le-ltb n (k + 1) (omega arith)))
    second g (inr l) = same (omega arith)

    first : (n < k) ⊎ (k ≤ n) → (nat_lt n k && q n) ≡ (nat_lt n (k + 1) && q n)
    first (inl l) = ap (λ b. b && q n) (lt-ltb n k l ∙ sym (lt-ltb n (k + 1) (omega arith)))
    first (inr g) = second g (cases_lt k n)

written : (q : ℕ → Bool) (k n : ℕ) (old : Bool) → q k ≡ true → old ≡ (nat_lt n k && q n) → cond (nat_le k n && nat_lt n (k + 1)) true old ≡ (nat_lt n (k + 1) && q n)
written q k n old e o = first (cases_lt n k)
  where
    same : k ≤ n → n ≤ k → n ≡ k → cond (nat_le k n && nat_lt n (k + 1)) true old ≡ (nat_lt n (k + 1) && q n)
    same g l h = ap (λ b. cond b true old) (here_true k n g l) ∙ sym (ap (λ b. b && q n) (lt-ltb n (k + 1) (omega arith)) ∙ ap q h ∙ e)

    second : k ≤ n → (k < n) ⊎ (n ≤ k) → cond (nat_le k n && nat_lt n (k + 1)) true old ≡ (nat_lt n (k + 1) && q n)
    second g (inl l) = ap (λ b. cond b true old) (here_high k n l) ∙ o ∙ ap (λ b. b && q n) (le-ltb n k g ∙ sym (le-ltb n (k + 1) (omega arith)))
    second g (inr l) = same g l (omega arith)

    first : (n < k) ⊎ (k ≤ n) → cond (nat_le k n && nat_lt n (k + 1)) true old ≡ (nat_lt n (k + 1) && q n)
    first (inl l) = ap (λ b. cond b true old) (here_low k n l) ∙ o ∙ ap (λ b. b && q n) (lt-ltb n k l ∙ sym (lt-ltb n (k + 1) (omega arith)))
    first (inr g) = second g (cases_lt k n)

pub passing_kept : (q : ℕ → Bool) (k : ℕ) → q k ≡ false → passing_below k q ≡ passing_below (k + 1) q
unfolding passing_below
passing_kept q k e = rows_of-like _ _ (λ n h. kept q k n e)

pub passing_written : (q : ℕ → Bool) (k : ℕ) (old : List Bool) → q k ≡ true → old ≡ passing_below k q → rows_of (λ n. cond (nat_le k n && nat_lt n (k + 1)) true (has old n)) ≡ passing_below (k + 1) q
unfolding passing_below
passing_written q k old e o = rows_of-like _ _ (λ n h. written q k n (has old n) e (ap (λ m. has m n) o ∙ has-rows_of (λ n. nat_lt n k && q n) n h))

pub none_below : (q : ℕ → Bool) → rows_of (λ _. false) ≡ passing_below 0 q
unfolding passing_below
none_below q = rows_of-like _ _ (λ n h. ap (λ b. b && q n) (sym (le-ltb n 0 (omega arith))))

pub pair_start : (mask : List Bool) (t : ℕ → Truth) (c : Pair) → c.yes ≡ rows_of (λ _. false) → c.no ≡ rows_of (λ _. false) → IsPairBelow 0 mask t c
pair_start mask t c e f = record { yes = e ∙ none_below _; no = f ∙ none_below _ }

pub pair_skip : (mask : List Bool) (t : ℕ → Truth) (k : ℕ) (c : Pair) → has mask k ≡ false → IsPairBelow k mask t c → IsPairBelow (k + 1) mask t c
pair_skip mask t k c e p = record {
  yes = p.yes ∙ passing_kept (λ n. has mask n && is_true (t n)) k (ap (λ b. b && is_true (t k)) e);
  no = p.no ∙ passing_kept (λ n. has mask n && is_false (t n)) k (ap (λ b. b && is_false (t k)) e);
}

at_row : (mask : List Bool) (t : ℕ → Truth) (k : ℕ) (test : Truth → Bool) (truth : Truth) → has mask k ≡ true → t k ≡ truth → (has mask k && test (t k)) ≡ test truth
at_row mask t k test truth e f = ap (λ b. b && test (t k)) e ∙ ap test f

pub put_true : (a c : Pair) (k : ℕ) → c.yes ≡ rows_of (λ n. cond (nat_le k n && nat_lt n (k + 1)) true (has a.yes n)) → c.no ≡ a.no → (mask : List Bool) (t : ℕ → Truth) → IsPairBelow k mask t a → has mask k ≡ true → t k ≡ True → IsPairBelow (k + 1) mask t c
put_true a c k e f mask t p m h = record {
  yes = e ∙ passing_written (λ n. has mask n && is_true (t n)) k a.yes (at_row mask t k is_true True m h) p.yes;
  no = f ∙ p.no ∙ passing_kept (λ n. has mask n && is_false (t n)) k (at_row mask t k is_false True m h);
}

pub put_false : (a c : Pair) (k : ℕ) → c.yes ≡ a.yes → c.no ≡ rows_of (λ n. cond (nat_le k n && nat_lt n (k + 1)) true (has a.no n)) → (mask : List Bool) (t : ℕ → Truth) → IsPairBelow k mask t a → has mask k ≡ true → t k ≡ False → IsPairBelow (k + 1) mask t c
put_false a c k e f mask t p m h = record {
  yes = e ∙ p.yes ∙ passing_kept (λ n. has mask n && is_true (t n)) k (at_row mask t k is_true False m h);
  no = f ∙ passing_written (λ n. has mask n && is_false (t n)) k a.no (at_row mask t k is_false False m h) p.no;
}

pub put_unknown : (a c : Pair) (k : ℕ) → c.yes ≡ a.yes → c.no ≡ a.no → (mask : List Bool) (t : ℕ → Truth) → IsPairBelow k mask t a → has mask k ≡ true → t k ≡ Unknown → IsPairBelow (k + 1) mask t c
put_unknown a c k e f mask t p m h = record {
  yes = e ∙ p.yes ∙ passing_kept (λ n. has mask n && is_true (t n)) k (at_row mask t k is_true Unknown m h);
  no = f ∙ p.no ∙ passing_kept (λ n. has mask n && is_false (t n)) k (at_row mask t k is_false Unknown m h);
}

pub pair_end : (mask : List Bool) (t : ℕ → Truth) (c : Pair) → IsPairBelow 1024 mask t c → IsPair mask t c
unfolding passing_below
pair_end mask t c p = record {
  yes = p.yes ∙ is_yes mask t _ (λ n h. ap (λ b. b && (has mask n && is_true (t n))) (lt-ltb n 1024 h));
  no = p.no ∙ is_no mask t _ (λ n h. ap (λ b. b && (has mask n && is_false (t n))) (lt-ltb n 1024 h));
}
