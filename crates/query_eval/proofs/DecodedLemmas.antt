-- A column's cells by its nulls and its decoded values.
use Rattle.std.proofs.Common.{◌≡◌, ℕ, ◌<◌, Bool, true, false, cond, ◌&&◌, List, [], ◌∷◌, length, slice_index_or, Option, Some, None, IfSome, ℤ, pos, refl, sym, ap, ◌∙◌}
use Rattle.table_model.specs.Answer.{whole}
use Rattle.table_model.specs.Condition.{is_null, is_among}
use Rattle.table_model.specs.Truth.{and_of, comparison, truth_of}
use Rattle.table_model.specs.declared.op.Op.TheVariants.{GreaterOrEqual, LessOrEqual}
use Rattle.transpose_order.specs.Mask.{rows_of, has}
use Rattle.transpose_order.specs.MaskWords.{has-rows_of}
use Rattle.std.specs.List.{list_any}
use Rattle.std.specs.Ordering.{int_eq}
use Rattle.std.proofs.Math.Bool.{and-true}
use Rattle.std.proofs.lemmas.Bool.{false≢true}
use Rattle.table_model.proofs.Predicates.{predicates}
use Rattle.table_model.specs.declared.truth.Truth.TheVariants.{Unknown}
use Rattle.query_eval.specs.Coded.{AreRuns, run_at}
use Rattle.query_eval.specs.Keys.{AreKeys, run_key}
use Rattle.query_eval.specs.Vector.{Vector, cell_at}

pub decoded_cell : (v : Vector) (column : ℕ) (nulls : List Bool) (values : List ℤ) → nulls ≡ rows_of (λ n. is_null (whole (cell_at v column n))) → ((n : ℕ) (z : ℤ) → n < 1024 → cell_at v column n ≡ Some z → slice_index_or values n (pos 0) ≡ z) → (n : ℕ) → n < 1024 → cond (has nulls n) None (Some (slice_index_or values n (pos 0))) ≡ cell_at v column n
decoded_cell v column nulls values e f n h =
    ap (λ m. cond (has m n) None (Some (slice_index_or values n (pos 0)))) e
    ∙ ap (λ b. cond b None (Some (slice_index_or values n (pos 0)))) (has-rows_of (λ n. is_null (whole (cell_at v column n))) n h)
    ∙ one (cell_at v column n) refl
  where
    one : (o : Option ℤ) → cell_at v column n ≡ o → cond (is_null (whole o)) None (Some (slice_index_or values n (pos 0))) ≡ o
    one None g = refl
    one (Some z) g = ap (λ x. Some x) (f n z h g)

-- where no row of a mask is null, each has the value of its run
pub runs_cells : (v : Vector) (column : ℕ) (nulls mask : List Bool) (values : List ℤ) → nulls ≡ rows_of (λ n. is_null (whole (cell_at v column n))) → ((n : ℕ) → n < 1024 → has mask n ≡ true → has nulls n ≡ false) → (o : Option (List Bool)) → IfSome o (λ starts. AreRuns v column starts values)
    → IfSome o (λ starts. AreKeys (column ∷ []) v mask (run_key starts values))
runs_cells v column nulls mask values e none None h = h
runs_cells v column nulls mask values e none (Some starts) h = λ n l on. ap (λ o. o ∷ []) (by_cell n l on (cell_at v column n) refl)
  where
    by_cell : (n : ℕ) → n < 1024 → has mask n ≡ true → (o : Option ℤ) → cell_at v column n ≡ o → Some (slice_index_or values (run_at starts n) (pos 0)) ≡ cell_at v column n
    by_cell n l on (Some z) f = ap (λ x. Some x) (h.value n z l f) ∙ sym f
    by_cell n l on None f =
        absurd (false≢true (sym (none n l on) ∙ ap (λ m. has m n) e ∙ has-rows_of (λ n. is_null (whole (cell_at v column n))) n l ∙ ap (λ (o : Option ℤ). is_null (whole o)) f))

-- where no row is both null and of a mask, no row of the mask is null
pub not_null : (nulls mask both : List Bool) → both ≡ rows_of (λ n. has nulls n && has mask n) → ((n : ℕ) → n < 1024 → has both n ≡ false) → (n : ℕ) → n < 1024 → has mask n ≡ true → has nulls n ≡ false
not_null nulls mask both e none n l on = sym (and-true (has nulls n)) ∙ ap (λ b. has nulls n && b) (sym on) ∙ sym (ap (λ m. has m n) e ∙ has-rows_of (λ n. has nulls n && has mask n) n l) ∙ none n l

pub between_same : (x y l m h k : Option ℤ) → x ≡ y → l ≡ m → h ≡ k → and_of (comparison GreaterOrEqual x l) (comparison LessOrEqual x h) ≡ and_of (comparison GreaterOrEqual y m) (comparison LessOrEqual y k)
between_same x y l m h k e f g =
    ap (λ z. and_of (comparison GreaterOrEqual z l) (comparison LessOrEqual z h)) e
    ∙ ap (λ z. and_of (comparison GreaterOrEqual y z) (comparison LessOrEqual y h)) f
    ∙ ap (λ z. and_of (comparison GreaterOrEqual y m) (comparison LessOrEqual y z)) g

pub among_value : (cell : Option ℤ) (z : ℤ) (literals : List ℤ) → cell ≡ Some z → is_among (whole cell) literals ≡ truth_of (list_any (int_eq z) literals)
among_value cell z literals e = ap (λ (o : Option ℤ). is_among (whole o) literals) e ∙ predicates.whole_among z literals

pub among_null : (cell : Option ℤ) (literals : List ℤ) → cell ≡ None → (length literals ≡ 0 → ⊥) → Unknown ≡ is_among (whole cell) literals
among_null cell [] e h = absurd (h refl)
among_null cell (n ∷ ns) e h = sym (ap (λ (o : Option ℤ). is_among (whole o) (n ∷ ns)) e ∙ predicates.null_among n ns)
