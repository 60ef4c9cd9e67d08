-- IN of a column's values, literal by literal.
use Rattle.std.proofs.Common.{◌≡◌, ℕ, ◌<◌, ◌+◌, Bool, true, false, ◌&&◌, ◌||◌, not, cond, List, [], ◌∷◌, length, take, get_or, slice_index_or, Some, None, ℤ, pos, refl, sym, ap, ◌∙◌, arith}
use Rattle.std.specs.List.{list_any}
use Rattle.std.specs.Ordering.{int_eq}
use Rattle.std.proofs.lemmas.List.Folds.{list_any_more}
use Rattle.table_model.proofs.Predicates.{predicates}
use Rattle.table_model.proofs.TruthPairs.{is_true-truth_of, is_false-truth_of}
use Rattle.table_model.specs.Answer.{whole}
use Rattle.table_model.specs.Condition.{is_among}
use Rattle.table_model.specs.Truth.{is_true, is_false}
use Rattle.transpose_order.specs.Mask.{rows_of, has}
use Rattle.transpose_order.specs.MaskWords.{has-rows_of, rows_of-like}
use Rattle.query_eval.specs.Where.{IsPair}
use Rattle.query_eval.specs.declared.filter.pair.Pair.{Pair}
use Rattle.query_eval.proofs.PairLemmas.{is_yes, is_no}

-- one literal more
pub among_more : (values literals : List ℤ) (i : ℕ) (before one found : List Bool) → i < length literals → before ≡ rows_of (λ n. list_any (int_eq (get_or values n (pos 0))) (take i literals)) → one ≡ rows_of (λ n. int_eq (get_or values n (pos 0)) (get_or literals i (pos 0))) → found ≡ rows_of (λ n. has before n || has one n) → found ≡ rows_of (λ n. list_any (int_eq (get_or values n (pos 0))) (take (i + 1) literals))
among_more values literals i before one found l e f g =
    g ∙ rows_of-like (λ n. has before n || has one n) (λ n. list_any (int_eq (get_or values n (pos 0))) (take (i + 1) literals))
    (λ n h. ap (λ b. b || has one n) (ap (λ m. has m n) e ∙ has-rows_of (λ n. list_any (int_eq (get_or values n (pos 0))) (take i literals)) n h)
    ∙ ap (λ b. list_any (int_eq (get_or values n (pos 0))) (take i literals) || b) (ap (λ m. has m n) f ∙ has-rows_of (λ n. int_eq (get_or values n (pos 0)) (get_or literals i (pos 0))) n h)
    ∙ sym (list_any_more (int_eq (get_or values n (pos 0))) literals i (pos 0) l))

-- the rows where IN is known, and whether the value is one of the literals
known_yes : (m null f : Bool) (z : ℤ) (n : ℤ) (ns : List ℤ) → f ≡ list_any (int_eq z) (n ∷ ns) → ((m && not null) && f) ≡ (m && is_true (is_among (whole (cond null None (Some z))) (n ∷ ns)))
known_yes false null f z n ns e = refl
known_yes true true f z n ns e = sym (ap is_true (predicates.null_among n ns))
known_yes true false f z n ns e = e ∙ sym (ap is_true (predicates.whole_among z (n ∷ ns)) ∙ is_true-truth_of (list_any (int_eq z) (n ∷ ns)))

known_no : (m null f : Bool) (z : ℤ) (n : ℤ) (ns : List ℤ) → f ≡ list_any (int_eq z) (n ∷ ns) → ((m && not null) && not f) ≡ (m && is_false (is_among (whole (cond null None (Some z))) (n ∷ ns)))
known_no false null f z n ns e = refl
known_no true true f z n ns e = sym (ap is_false (predicates.null_among n ns))
known_no true false f z n ns e = ap not e ∙ sym (ap is_false (predicates.whole_among z (n ∷ ns)) ∙ is_false-truth_of (list_any (int_eq z) (n ∷ ns)))

none_yes : (m f : Bool) → f ≡ false → (m && f) ≡ (m && false)
none_yes false f e = refl
none_yes true f e = e

none_no : (m f : Bool) → f ≡ false → (m && not f) ≡ (m && true)
none_no false f e = refl
none_no true f e = ap not e

module _ (nulls mask known found : List Bool) (values : List ℤ) (pair : Pair) (yes : pair.yes ≡ rows_of (λ n. has known n && has found n)) (no : pair.no ≡ rows_of (λ n. has known n && not (has found n))) where
  pub pair_among : (literals : List ℤ) → (length literals ≡ 0 → ⊥) → found ≡ rows_of (λ n. list_any (int_eq (get_or values n (pos 0))) literals) → known ≡ rows_of (λ n. has mask n && not (has nulls n)) → IsPair mask (λ n. is_among (whole (cond (has nulls n) None (Some (slice_index_or values n (pos 0))))) literals) pair
  pair_among [] some e f = absurd (some refl)
  pair_among (x ∷ xs) some e f = record {
    yes = yes ∙ is_yes mask (λ n. is_among (whole (cond (has nulls n) None (Some (slice_index_or values n (pos 0))))) (x ∷ xs)) _ (λ n h. ap (λ b. b && has found n) (ap (λ m. has m n) f ∙ has-rows_of (λ n. has mask n && not (has nulls n)) n h) ∙ known_yes (has mask n) (has nulls n) (has found n) (get_or values n (pos 0)) x xs (ap (λ m. has m n) e ∙ has-rows_of (λ n. list_any (int_eq (get_or values n (pos 0))) (x ∷ xs)) n h));
    no = no ∙ is_no mask (λ n. is_among (whole (cond (has nulls n) None (Some (slice_index_or values n (pos 0))))) (x ∷ xs)) _ (λ n h. ap (λ b. b && not (has found n)) (ap (λ m. has m n) f ∙ has-rows_of (λ n. has mask n && not (has nulls n)) n h) ∙ known_no (has mask n) (has nulls n) (has found n) (get_or values n (pos 0)) x xs (ap (λ m. has m n) e ∙ has-rows_of (λ n. list_any (int_eq (get_or values n (pos 0))) (x ∷ xs)) n h));
  }

  pub pair_among_none : (literals : List ℤ) → length literals ≡ 0 → found ≡ rows_of (λ n. list_any (int_eq (get_or values n (pos 0))) literals) → known ≡ mask → IsPair mask (λ n. is_among (whole (cond (has nulls n) None (Some (slice_index_or values n (pos 0))))) literals) pair
  pair_among_none (x ∷ xs) none e f = absurd (omega (arith, none))
  pair_among_none [] none e f = record {
    yes = yes ∙ is_yes mask (λ n. is_among (whole (cond (has nulls n) None (Some (slice_index_or values n (pos 0))))) []) _ (λ n h. ap (λ b. b && has found n) (ap (λ m. has m n) f) ∙ none_yes (has mask n) (has found n) (ap (λ m. has m n) e ∙ has-rows_of (λ n. list_any (int_eq (get_or values n (pos 0))) []) n h));
    no = no ∙ is_no mask (λ n. is_among (whole (cond (has nulls n) None (Some (slice_index_or values n (pos 0))))) []) _ (λ n h. ap (λ b. b && not (has found n)) (ap (λ m. has m n) f) ∙ none_no (has mask n) (has found n) (ap (λ m. has m n) e ∙ has-rows_of (λ n. list_any (int_eq (get_or values n (pos 0))) []) n h));
  }
