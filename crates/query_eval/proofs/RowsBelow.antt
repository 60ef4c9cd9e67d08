-- The first rows of a mask in a vector.
use Rattle.std.proofs.Common.{◌≡◌, ℕ, ◌+◌, ◌==◌, ◌&&◌, get_or, Bool, true, false, cond, List, [], ◌∷◌, ◌++◌, map, Option, Some, None, refl, ap, ◌∙◌, arith}
use Rattle.std.specs.List.{range_with_len}
use Rattle.std.proofs.lemmas.List.Elements.{filter_map-append}
use Rattle.std.proofs.lemmas.List.FromFn.{map-range_with_len_more}
use Rattle.table_model.specs.Values.{present}
use Rattle.transpose_order.specs.Mask.{rows_of, has}
use Rattle.query_eval.specs.Kept.{rows_at}
use Rattle.query_eval.specs.Places.{rows_below, rows_placed}
use Rattle.query_eval.specs.Vector.{Vector, row_at}

-- one row more of those that have something
pub present_more : {X : Type 0} (f : ℕ → Option X) (k : ℕ) (b : Bool) (x : X) → f k ≡ cond b (Some x) None → present (map f (range_with_len 0 (k + 1))) ≡ present (map f (range_with_len 0 k)) ++ cond b (x ∷ []) []
present_more {X = X} f k b x is =
    ap present (map-range_with_len_more f 0 k k (omega arith)) ∙ filter_map-append (λ o. o) (map f (range_with_len 0 k)) (f k ∷ [])
    ∙ ap (λ o. present (map f (range_with_len 0 k)) ++ present (o ∷ [])) is ∙ ap (λ l. present (map f (range_with_len 0 k)) ++ l) (one b)
  where
    one : (c : Bool) → present (cond c (Some x) None ∷ []) ≡ cond c (x ∷ []) []
    one true = refl
    one false = refl

pub below_more : (k : ℕ) (v : Vector) (mask : List Bool) (b : Bool) → has mask k ≡ b → rows_below (k + 1) v mask ≡ rows_below k v mask ++ cond b (row_at v k ∷ []) []
below_more k v mask b is = present_more (λ n. cond (has mask n) (Some (row_at v n)) None) k b (row_at v k) (ap (λ c. cond c (Some (row_at v k)) None) is)

-- the rows of a mask with a place, one row more
pub placed_more_rows : (k : ℕ) (v : Vector) (mask : List Bool) (places : List ℕ) (g : ℕ) (b : Bool) → (has mask k && (get_or places k 0 == g)) ≡ b → rows_placed (k + 1) v mask places g ≡ rows_placed k v mask places g ++ cond b (row_at v k ∷ []) []
placed_more_rows k v mask places g b is = present_more (λ n. cond (has mask n && (get_or places n 0 == g)) (Some (row_at v n)) None) k b (row_at v k) (ap (λ c. cond c (Some (row_at v k)) None) is)

pub below_all : (k : ℕ) (v : Vector) (mask : List Bool) → k ≡ 1024 → rows_below k v mask ≡ rows_at v mask
unfolding rows_at rows_of
below_all k v mask e = ap (λ n. rows_below n v mask) e
