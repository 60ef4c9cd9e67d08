-- IN by the codes of rows: a row's value is a literal where its code is the literal's.
use Rattle.std.proofs.Common.{◌≡◌, ◌==◌, ℕ, ◌+◌, ◌<◌, ◌≤◌, ◌⊎◌, inl, inr, Bool, true, false, cond, not, ◌&&◌, ◌||◌, List, [], ◌∷◌, length, get_or, take, Some, None, ℤ, pos, ◌<ℤ◌, refl, sym, ap, ◌∙◌, arith}
use Rattle.std.specs.List.{list_any}
use Rattle.std.specs.Ordering.{int_eq}
use Rattle.std.proofs.Math.Bool.{and-false, or-false}
use Rattle.std.proofs.lemmas.Bool.{cases_lt, false≢true, ne_eqb}
use Rattle.std.proofs.lemmas.Bool.Decides.{Decides-eqb, Decides-int_eq, same_from_decides}
use Rattle.std.proofs.lemmas.List.Folds.{list_any_more}
use Rattle.table_model.proofs.Predicates.{predicates}
use Rattle.table_model.proofs.TruthPairs.{is_true-truth_of, is_false-truth_of}
use Rattle.table_model.specs.Answer.{whole}
use Rattle.table_model.specs.Condition.{is_among}
use Rattle.table_model.specs.Truth.{is_true, is_false}
use Rattle.transpose_order.specs.Mask.{rows_of, has}
use Rattle.transpose_order.specs.MaskWords.{has-rows_of}
use Rattle.table_model.specs.declared.answer.Field.{Field}
use Rattle.table_model.specs.declared.truth.Truth.{Truth}
use Rattle.table_model.specs.declared.truth.Truth.TheVariants.{False}
use Rattle.query_eval.specs.Coded.{cell_of_code, is_code_among}
use Rattle.query_eval.specs.Where.{IsPair}
use Rattle.query_eval.specs.declared.filter.pair.Pair.{Pair}
use Rattle.query_eval.proofs.CodeLemmas.{key_same}
use Rattle.query_eval.proofs.PairLemmas.{is_yes, is_no}
use Rattle.query_eval.proofs.PredicateLemmas.{pair_alike}

-- a code that isn't the count is below it
below : (k count : ℕ) → k ≤ count → (k == count) ≡ false → k < count
below k count h e = by_order (cases_lt k count)
  where
    by_order : (k < count) ⊎ (count ≤ k) → k < count
    by_order (inl g) = g
    by_order (inr g) = let same : k ≡ count = omega (arith, h, g) in absurd (false≢true (sym e ∙ (Decides-eqb k count).1 same))

-- ---- one literal
module _ (count : ℕ) (keys : List ℤ) (rises : (i j : ℕ) → i < j → j < count → get_or keys i (pos 0) <ℤ get_or keys j (pos 0)) where
  pub has_code : (k code : ℕ) (literal : ℤ) → k ≤ count → code < count → get_or keys code (pos 0) ≡ literal → (k == code) ≡ is_code_among count keys (literal ∷ []) k
  has_code k code literal h l e = by_test (k == count) refl
    where
      by_test : (b : Bool) → (k == count) ≡ b → (k == code) ≡ (not b && list_any (int_eq (get_or keys k (pos 0))) (literal ∷ []))
      by_test true f = ne_eqb k code (λ g. let same : k ≡ count = (Decides-eqb k count).0 f in omega (arith, g, same, l))
      by_test false f =
          same_from_decides (k == code) (int_eq (get_or keys k (pos 0)) literal) (Decides-eqb k code)
          (λ g. key_same count keys rises k code (below k count h f) l ((Decides-int_eq (get_or keys k (pos 0)) literal).0 g ∙ sym e), λ g. (Decides-int_eq (get_or keys k (pos 0)) literal).1 (ap (λ j. get_or keys j (pos 0)) g ∙ e))
          ∙ sym (or-false (int_eq (get_or keys k (pos 0)) literal))

pub no_code : (count : ℕ) (keys : List ℤ) (k : ℕ) (literal : ℤ) → k ≤ count → ((code : ℕ) → code < count → int_eq (get_or keys code (pos 0)) literal ≡ false) → is_code_among count keys (literal ∷ []) k ≡ false
no_code count keys k literal h none = by_test (k == count) refl
  where
    by_test : (b : Bool) → (k == count) ≡ b → (not b && list_any (int_eq (get_or keys k (pos 0))) (literal ∷ [])) ≡ false
    by_test true f = refl
    by_test false f = or-false (int_eq (get_or keys k (pos 0)) literal) ∙ none k (below k count h f)

-- one literal more
pub codes_more : (count : ℕ) (keys literals : List ℤ) (i k : ℕ) (m : Bool) → i < length literals → ((m && is_code_among count keys (take i literals) k) || (m && is_code_among count keys (get_or literals i (pos 0) ∷ []) k)) ≡ (m && is_code_among count keys (take (i + 1) literals) k)
codes_more count keys literals i k false l = refl
codes_more count keys literals i k true l = by_test (k == count)
  where
    test : ℤ → Bool
    test = int_eq (get_or keys k (pos 0))

    by_test : (b : Bool) → ((not b && list_any test (take i literals)) || (not b && list_any test (get_or literals i (pos 0) ∷ []))) ≡ (not b && list_any test (take (i + 1) literals))
    by_test true = refl
    by_test false = ap (λ b. list_any test (take i literals) || b) (or-false (test (get_or literals i (pos 0)))) ∙ sym (list_any_more test literals i (pos 0) l)

-- ---- the rows where IN is true, and those where it is false
code_yes : (m b : Bool) (z n : ℤ) (ns : List ℤ) → ((m && not (m && b)) && (m && (not b && list_any (int_eq z) (n ∷ ns)))) ≡ (m && is_true (is_among (whole (cond b None (Some z))) (n ∷ ns)))
code_yes false b z n ns = refl
code_yes true true z n ns = sym (ap is_true (predicates.null_among n ns))
code_yes true false z n ns = sym (ap is_true (predicates.whole_among z (n ∷ ns)) ∙ is_true-truth_of (list_any (int_eq z) (n ∷ ns)))

code_no : (m b : Bool) (z n : ℤ) (ns : List ℤ) → ((m && not (m && b)) && not (m && (not b && list_any (int_eq z) (n ∷ ns)))) ≡ (m && is_false (is_among (whole (cond b None (Some z))) (n ∷ ns)))
code_no false b z n ns = refl
code_no true true z n ns = sym (ap is_false (predicates.null_among n ns))
code_no true false z n ns = sym (ap is_false (predicates.whole_among z (n ∷ ns)) ∙ is_false-truth_of (list_any (int_eq z) (n ∷ ns)))

module _ (count : ℕ) (keys : List ℤ) (codes : List ℕ) (mask nulls known found : List Bool) (pair : Pair) (absent : (n : ℕ) → n < 1024 → has nulls n ≡ (has mask n && (get_or codes n 0 == count))) (rest : known ≡ rows_of (λ n. has mask n && not (has nulls n))) (here : pair.yes ≡ rows_of (λ n. has known n && has found n)) (away : pair.no ≡ rows_of (λ n. has known n && not (has found n))) where
  is_known : (n : ℕ) → n < 1024 → has known n ≡ (has mask n && not (has mask n && (get_or codes n 0 == count)))
  is_known n l = ap (λ m. has m n) rest ∙ has-rows_of (λ n. has mask n && not (has nulls n)) n l ∙ ap (λ b. has mask n && not b) (absent n l)

  pub pair_of_codes : (literals : List ℤ) → (length literals ≡ 0 → ⊥) → ((n : ℕ) → n < 1024 → has found n ≡ (has mask n && is_code_among count keys literals (get_or codes n 0))) → IsPair mask (λ n. is_among (whole (cell_of_code count keys (get_or codes n 0))) literals) pair
  pair_of_codes [] some e = absurd (some refl)
  pair_of_codes (x ∷ xs) some e = record {
    yes = here ∙ is_yes mask t (λ n. has known n && has found n) (λ n l. ap (λ b. b && has found n) (is_known n l) ∙ ap (λ b. (has mask n && not (has mask n && (get_or codes n 0 == count))) && b) (e n l) ∙ code_yes (has mask n) (get_or codes n 0 == count) (get_or keys (get_or codes n 0) (pos 0)) x xs);
    no = away ∙ is_no mask t (λ n. has known n && not (has found n)) (λ n l. ap (λ b. b && not (has found n)) (is_known n l) ∙ ap (λ b. (has mask n && not (has mask n && (get_or codes n 0 == count))) && not b) (e n l) ∙ code_no (has mask n) (get_or codes n 0 == count) (get_or keys (get_or codes n 0) (pos 0)) x xs);
  }
    where
      t : ℕ → Truth
      t = λ n. is_among (whole (cell_of_code count keys (get_or codes n 0))) (x ∷ xs)

-- nothing is among no literals
pub pair_of_none : (mask : List Bool) (field : ℕ → Field) (literals : List ℤ) (pair : Pair) → length literals ≡ 0 → IsPair mask (λ _. False) pair → IsPair mask (λ n. is_among (field n) literals) pair
pair_of_none mask field [] pair e p = pair_alike mask (λ _. False) (λ n. is_among (field n) []) pair (λ n l. refl) p
pair_of_none mask field (x ∷ xs) pair e p = absurd (omega (arith, e))

-- no literal is a row's value where there is none
pub among_none : (count : ℕ) (keys : List ℤ) (k : ℕ) → is_code_among count keys [] k ≡ false
among_none count keys k = and-false (not (k == count))
