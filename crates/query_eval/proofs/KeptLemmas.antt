-- The mask of the rows that are kept.
use Rattle.std.proofs.Common.{◌≡◌, ℕ, zero, suc, ◌+◌, ◌<◌, ◌≤◌, ◌==◌, length, Bool, true, false, not, cond, ◌&&◌, List, [], ◌∷◌, Option, Some, None, count_by, refl, sym, ap, ◌∙◌, arith}
use Rattle.std.proofs.Math.Bool.{and-true}
use Rattle.std.proofs.lemmas.Bool.{ne_eqb}
use Rattle.std.proofs.lemmas.List.Sums.{sum_by-cons}
use Rattle.table_model.specs.Condition.{condition_truth}
use Rattle.table_model.specs.Formula.{Formula}
use Rattle.table_model.specs.Meaning.{at_row, is_kept}
use Rattle.table_model.specs.Table.{Table}
use Rattle.table_model.specs.Truth.{is_true}
use Rattle.transpose_order.specs.Mask.{rows_of, has}
use Rattle.transpose_order.specs.MaskWords.{has-rows_of, rows_of-like}
use Rattle.query_eval.specs.Kept.{kept_mask, has_live, where_mentions}
use Rattle.query_eval.specs.Mentions.{condition_mentions}
use Rattle.query_eval.specs.Pairs.{yes_of}
use Rattle.query_eval.specs.Vector.{Vector, row_at, is_live}
use Rattle.query_eval.specs.Where.{truth_in}

-- where none is true, each is false
pub no_true : (xs : List Bool) (n : ℕ) → count_by (λ b. b) xs ≡ 0 → has xs n ≡ false
no_true [] n h = refl
no_true (true ∷ xs) n h = absurd (omega (arith, sum_by-cons (λ (b : Bool). cond b 1 0) true xs))
no_true (false ∷ xs) zero h = refl
no_true (false ∷ xs) (suc n) h = no_true xs n (omega (arith, sum_by-cons (λ (b : Bool). cond b 1 0) false xs))

-- and where each is false, none is counted
pub none_counted : (xs : List Bool) → ((n : ℕ) → n < length xs → has xs n ≡ false) → count_by (λ b. b) xs ≡ 0
none_counted [] h = refl
none_counted (true ∷ xs) h = absurd (grind (arith, h 0 (omega arith)))
none_counted (false ∷ xs) h = omega (arith, sum_by-cons (λ (b : Bool). cond b 1 0) false xs, none_counted xs (λ n l. h (suc n) (omega (arith, l))))

pub kept-nowhere : (table : Table) (condition : Option Formula) (v : Vector) (live : List Bool) → live ≡ rows_of (is_live v) → count_by (λ b. b) live ≡ 0 → live ≡ kept_mask table condition v
unfolding kept_mask
kept-nowhere table condition v live e h =
    e ∙ rows_of-like (is_live v) _
    (λ n l. let dead : is_live v n ≡ false = sym (has-rows_of (is_live v) n l) ∙ ap (λ m. has m n) (sym e) ∙ no_true live n h in
    dead ∙ sym (ap (λ b. b && is_kept condition (at_row table.columns (row_at v n))) dead))

pub kept-all : (table : Table) (condition : Option Formula) (v : Vector) (live : List Bool) → live ≡ rows_of (is_live v) → condition ≡ None → live ≡ kept_mask table condition v
unfolding kept_mask
kept-all table condition v live e h =
    e ∙ rows_of-like (is_live v) _ (λ n l. sym (and-true (is_live v n)) ∙ ap (λ (c : Option Formula). is_live v n && is_kept c (at_row table.columns (row_at v n))) (sym h))

pub kept-where : (table : Table) (condition : Option Formula) (f : Formula) (v : Vector) (live kept : List Bool) → live ≡ rows_of (is_live v) → condition ≡ Some f → kept ≡ yes_of live (truth_in table v f) → kept ≡ kept_mask table condition v
unfolding kept_mask yes_of
kept-where table condition f v live kept e h y =
    y ∙ rows_of-like _ _
    (λ n l. ap (λ b. b && is_true (condition_truth (at_row table.columns (row_at v n)) f)) (ap (λ m. has m n) e ∙ has-rows_of (is_live v) n l)
    ∙ ap (λ (c : Option Formula). is_live v n && is_kept c (at_row table.columns (row_at v n))) (sym h))

pub live-some : (v : Vector) (live : List Bool) (n : ℕ) → live ≡ rows_of (is_live v) → n ≡ count_by (λ b. b) live → (n ≡ 0 → ⊥) → has_live v ≡ true
unfolding has_live
live-some v live n e c ne = ap (λ m. not (m == 0)) (ap (count_by (λ b. b)) (sym e) ∙ sym c) ∙ ap not (ne_eqb n 0 ne)

pub passes-where : (v : Vector) (condition : Option Formula) (f : Formula) (p q : ℕ) → has_live v ≡ true → condition ≡ Some f → p ≤ q + condition_mentions f → p ≤ q + cond (has_live v) (where_mentions condition) 0
passes-where v condition f p q l e h =
    let same : condition_mentions f ≡ cond (has_live v) (where_mentions condition) 0 = ap where_mentions (sym e) ∙ ap (λ b. cond b (where_mentions condition) 0) (sym l) in
    omega (arith, same)
