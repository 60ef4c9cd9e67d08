-- The values of rows as the members of a set.
use Rattle.std.proofs.Common.{◌≡◌, ℕ, ◌+◌, ◌<◌, ◌≤◌, Bool, true, false, not, cond, ◌&&◌, ◌||◌, List, [], ◌∷◌, ◌++◌, length, get_or, take, Option, Some, None, ℤ, pos, slice_index_or, refl, sym, ap, ◌∙◌, arith}
use Rattle.std.specs.List.{list_any, IsDistinct, AllByRecursion}
use Rattle.std.specs.Ordering.{int_eq}
use Rattle.std.proofs.Math.Bool.{or_assoc, or-false}
use Rattle.std.proofs.lemmas.Cmp.{int_eq_equiv}
use Rattle.std.proofs.lemmas.List.{take_more}
use Rattle.std.proofs.lemmas.List.Elements.{filter_map-append}
use Rattle.std.proofs.lemmas.List.Folds.{list_any-append}
use Rattle.table_model.proofs.AnswerOrder.{fold_value-alike}
use Rattle.table_model.proofs.Alike.{length-alike}
use Rattle.table_model.proofs.Bounds.{length-distinct}
use Rattle.table_model.proofs.Parts.{AreApart}
use Rattle.table_model.proofs.Rearranged.{Rearranged}
use Rattle.table_model.proofs.SameMembers.{distinct-alike}
use Rattle.table_model.specs.Answer.{whole}
use Rattle.table_model.specs.Condition.{is_null}
use Rattle.table_model.specs.Meaning.{fold_value}
use Rattle.table_model.specs.Values.{distinct, present}
use Rattle.table_model.specs.declared.query.Fold.{Fold}
use Rattle.transpose_order.specs.Mask.{rows_of, has}
use Rattle.transpose_order.specs.MaskWords.{has-rows_of, length-rows_of, get_or-rows_of}
use Rattle.query_eval.specs.Vector.{Vector, cell_at, looked_at}
use Rattle.query_eval.proofs.Lifted.{rows_of-alike}

-- ---- one row more
-- the value at a row of a mask
abbrev pub picked : List Bool → List ℤ → ℕ → Option ℤ
picked rows values n = cond (has rows n) (Some (slice_index_or values n (pos 0))) None

one-more : (rows : List Bool) (values : List ℤ) (k : ℕ) → k < 1024 → present (take (k + 1) (rows_of (picked rows values))) ≡ present (take k (rows_of (picked rows values))) ++ present (picked rows values k ∷ [])
one-more rows values k h =
    let all : List (Option ℤ) = rows_of (picked rows values) in
    let within : k < length all = omega (arith, length-rows_of (picked rows values)) in
    ap present (take_more all k None within) ∙ filter_map-append (λ o. o) (take k all) (get_or all k None ∷ [])
    ∙ ap (λ o. present (take k all) ++ present (o ∷ [])) (get_or-rows_of (picked rows values) k None h)

member-more : (rows : List Bool) (values : List ℤ) (k : ℕ) (z : ℤ) → k < 1024 → list_any (int_eq z) (present (take (k + 1) (rows_of (picked rows values)))) ≡ (list_any (int_eq z) (present (take k (rows_of (picked rows values)))) || list_any (int_eq z) (present (picked rows values k ∷ [])))
member-more rows values k z h = ap (list_any (int_eq z)) (one-more rows values k h) ∙ list_any-append (int_eq z) (present (take k (rows_of (picked rows values)))) (present (picked rows values k ∷ []))

pub member-put : (rows : List Bool) (values : List ℤ) (k : ℕ) (z x : ℤ) (old new first : Bool) → k < 1024 → has rows k ≡ true → slice_index_or values k (pos 0) ≡ x → old ≡ (first || list_any (int_eq z) (present (take k (rows_of (picked rows values))))) → new ≡ cond (int_eq x z) true old → new ≡ (first || list_any (int_eq z) (present (take (k + 1) (rows_of (picked rows values)))))
member-put rows values k z x old new first h here is before put =
    let last : list_any (int_eq z) (present (picked rows values k ∷ [])) ≡ int_eq z x =
    ap (λ b. list_any (int_eq z) (present (cond b (Some (slice_index_or values k (pos 0))) None ∷ []))) here ∙ or-false (int_eq z (slice_index_or values k (pos 0))) ∙ ap (int_eq z) is in
    put ∙ by_test (int_eq x z) old ∙ ap (λ b. old || b) (int_eq_equiv.symm x z) ∙ ap (λ b. b || int_eq z x) before
    ∙ or_assoc first (list_any (int_eq z) (present (take k (rows_of (picked rows values))))) (int_eq z x)
    ∙ ap (λ b. first || b) (sym (member-more rows values k z h ∙ ap (λ b. list_any (int_eq z) (present (take k (rows_of (picked rows values)))) || b) last))
  where
    by_test : (a b : Bool) → cond a true b ≡ (b || a)
    by_test true true = refl
    by_test true false = refl
    by_test false true = refl
    by_test false false = refl

pub member-skip : (rows : List Bool) (values : List ℤ) (k : ℕ) (z : ℤ) (old first : Bool) → k < 1024 → has rows k ≡ false → old ≡ (first || list_any (int_eq z) (present (take k (rows_of (picked rows values))))) → old ≡ (first || list_any (int_eq z) (present (take (k + 1) (rows_of (picked rows values)))))
member-skip rows values k z old first h here before =
    let last : list_any (int_eq z) (present (picked rows values k ∷ [])) ≡ false = ap (λ b. list_any (int_eq z) (present (cond b (Some (slice_index_or values k (pos 0))) None ∷ []))) here in
    before ∙ ap (λ b. first || b) (sym (member-more rows values k z h ∙ ap (λ b. list_any (int_eq z) (present (take k (rows_of (picked rows values)))) || b) last ∙ or-false _))

-- ---- a decoded column
pub decoded-values : (v : Vector) (column : ℕ) (mask nulls rows : List Bool) (values : List ℤ) → nulls ≡ rows_of (λ n. is_null (whole (cell_at v column n))) → rows ≡ rows_of (λ n. has mask n && not (has nulls n)) → ((n : ℕ) (z : ℤ) → n < 1024 → cell_at v column n ≡ Some z → slice_index_or values n (pos 0) ≡ z) → present (rows_of (picked rows values)) ≡ looked_at v column mask
unfolding looked_at
decoded-values v column mask nulls rows values e f d =
    ap present (rows_of-alike (picked rows values) (λ n. cond (has mask n) (cell_at v column n) None) None
    (λ n h. ap (λ b. cond b (Some (slice_index_or values n (pos 0))) None) (ap (λ m. has m n) f ∙ has-rows_of (λ m. has mask m && not (has nulls m)) n h
    ∙ ap (λ b. has mask n && not b) (ap (λ m. has m n) e ∙ has-rows_of (λ m. is_null (whole (cell_at v column m))) n h))
    ∙ one (has mask n) (cell_at v column n) (slice_index_or values n (pos 0)) (λ z is. d n z h is)))
  where
    one : (b : Bool) (o : Option ℤ) (x : ℤ) → ((z : ℤ) → o ≡ Some z → x ≡ z) → cond (b && not (is_null (whole o))) (Some x) None ≡ cond b o None
    one true None x h = refl
    one true (Some z) x h = ap (λ y. Some y) (h z refl)
    one false o x h = refl

-- ---- the values in the end
none_same : (x : ℤ) (xs : List ℤ) → AllByRecursion (λ y. int_eq x y ≡ false) xs → list_any (int_eq x) xs ≡ false
none_same x [] h = refl
none_same x (y ∷ ys) h = ap (λ b. b || list_any (int_eq x) ys) h.0 ∙ none_same x ys h.1

apart : (xs : List ℤ) → IsDistinct int_eq xs → AreApart int_eq xs
unfolding IsDistinct
apart [] h = tt
apart (x ∷ xs) h = (none_same x xs h.0, apart xs h.1)

alike : (xs zs : List ℤ) → IsDistinct int_eq xs → ((z : ℤ) → list_any (int_eq z) xs ≡ list_any (int_eq z) zs) → Rearranged xs (distinct zs)
alike xs zs d h = distinct-alike xs zs (apart xs d) h

pub folded-alike : (xs zs : List ℤ) → IsDistinct int_eq xs → ((z : ℤ) → list_any (int_eq z) xs ≡ list_any (int_eq z) zs) → (fold : Fold) → fold_value fold xs ≡ fold_value fold (distinct zs)
folded-alike xs zs d h fold = fold_value-alike fold xs (distinct zs) (alike xs zs d h)

pub set_few : (xs zs : List ℤ) → IsDistinct int_eq xs → ((z : ℤ) → list_any (int_eq z) xs ≡ list_any (int_eq z) zs) → length xs ≤ length zs
set_few xs zs d h =
    let same = length-alike xs (distinct zs) (alike xs zs d h) in
    omega (arith, same, length-distinct zs)
