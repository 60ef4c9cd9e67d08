-- One value more, and what set functions are in the end.
use Rattle.std.proofs.Common.{◌≡◌, ℕ, ◌+◌, ◌-◌, ◌*◌, ◌^◌, ◌≤◌, min, Bool, true, false, cond, List, [], ◌∷◌, ◌++◌, length, ℤ, pos, ◌+ℤ◌, ◌*ℤ◌, FitsSigned, sym, ap, subst, ◌∙◌, arith, append-nil, length-append}
use Rattle.std.specs.Int.{w128}
use Rattle.std.specs.Int.{from_bool}
use Rattle.std.proofs.lemmas.Int.{ints}
use Rattle.table_model.specs.Group.{IsWithin, state_row_limit}
use Rattle.table_model.specs.Values.{total}
use Rattle.table_model.proofs.Appended.{total-append}
use Rattle.table_model.proofs.Bounds.{AreSmall, total-small}
use Rattle.query_eval.specs.Tally.{AreSums, AreTold}
use Rattle.query_eval.specs.declared.tallies.tally.Sums.{Sums}

-- ---- bounds
small_parts : (xs : List ℤ) (z : ℤ) → AreSmall (xs ++ z ∷ []) → AreSmall xs × IsWithin (2 ^ 63) z
small_parts [] z h = (tt, h.0)
small_parts (x ∷ xs) z h = let rest = small_parts xs z h.1 in ((h.0, rest.0), rest.1)

within_fits : (n : ℕ) (z : ℤ) → n ≤ 2 ^ 37 → IsWithin (n * 2 ^ 63) z → FitsSigned w128 z
within_fits n z le h = omega (arith, ints, h.0, h.1)

-- a sum of at most 2^37 values fits, and in millionths too
total-fits : (zs : List ℤ) → length zs ≤ state_row_limit → AreSmall zs → FitsSigned w128 (total zs)
total-fits zs le small = within_fits (length zs) (total zs) (omega (arith, le)) (total-small zs small)

millionths_fit : (n : ℕ) (z : ℤ) → n ≤ state_row_limit → IsWithin (n * 2 ^ 63) z → FitsSigned w128 (z *ℤ pos 1000000)
millionths_fit n z le h = omega (arith, ints, h.0, h.1)

pub mean-fits : (zs : List ℤ) → length zs ≤ state_row_limit → AreSmall zs → FitsSigned w128 (total zs *ℤ pos 1000000)
mean-fits zs le small = millionths_fit (length zs) (total zs) le (total-small zs small)

-- ---- one value more
-- the sum of one value
pub one_total : (z : ℤ) → total (z ∷ []) ≡ z
one_total z = omega (arith, ints)

pub count_more : (count next : ℕ) (z : ℤ) → next ≡ min (count + 1) (2 ^ 64 - 1) → (values : List ℤ) → (length values ≤ state_row_limit → count ≡ length values) → length (values ++ z ∷ []) ≤ state_row_limit → next ≡ length (values ++ z ∷ [])
count_more count next z is values told few =
    let longer : length (values ++ z ∷ []) ≡ length values + 1 = length-append values (z ∷ []) in
    omega (arith, is, told (omega (arith, few, longer)), longer, few)

pub told_more : (s t : Sums) (z : ℤ) → t.count ≡ min (s.count + 1) (2 ^ 64 - 1) → (FitsSigned w128 (s.sum +ℤ z) → t.sum ≡ s.sum +ℤ z) → (values : List ℤ) → AreTold values s → AreTold (values ++ z ∷ []) t
told_more s t z count sum values told few small =
    let parts = small_parts values z small in
    let longer : length (values ++ z ∷ []) ≡ length values + 1 = length-append values (z ∷ []) in
    let now = told (omega (arith, few, longer)) parts.0 in
    let whole_sum : total (values ++ z ∷ []) ≡ total values +ℤ z = total-append values (z ∷ []) ∙ ap (λ x. total values +ℤ x) (one_total z) in
    let fits : FitsSigned w128 (s.sum +ℤ z) = subst (FitsSigned w128) (whole_sum ∙ ap (λ x. x +ℤ z) (sym now.sum)) (total-fits (values ++ z ∷ []) few small) in
    record {
      count = omega (arith, count, now.count, longer, few);
      sum = sum fits ∙ ap (λ x. x +ℤ z) now.sum ∙ sym whole_sum;
    }

pub told_where : (s t : Sums) (z more : ℤ) (by : ℕ) (comes : Bool) → by ≡ from_bool comes → more ≡ cond comes z (pos 0) → t.count ≡ min (s.count + by) (2 ^ 64 - 1) → (FitsSigned w128 (s.sum +ℤ more) → t.sum ≡ s.sum +ℤ more) → (values : List ℤ) → AreTold values s → length (values ++ cond comes (z ∷ []) []) ≤ state_row_limit → AreSmall (values ++ cond comes (z ∷ []) []) → AreSums (values ++ cond comes (z ∷ []) []) t
told_where s t z more by true one is count sum values told few small =
    told_more s t z (count ∙ ap (λ n. min (s.count + n) (2 ^ 64 - 1)) one) (subst (λ (x : ℤ). FitsSigned w128 (s.sum +ℤ x) → t.sum ≡ s.sum +ℤ x) is sum) values told few small
told_where s t z more by false one is count sum values told few small =
    let e : values ++ [] ≡ values = append-nil values in
    let none : by ≡ 0 = one in
    let now = told (subst (λ (l : List ℤ). length l ≤ state_row_limit) e few) (subst AreSmall e small) in
    let same : s.sum +ℤ more ≡ s.sum = omega (arith, ints, is) in
    let held : FitsSigned w128 s.sum = subst (FitsSigned w128) (ap total e ∙ sym now.sum) (total-fits (values ++ []) few small) in
    record {
      count = omega (arith, count, none, now.count, ap length e, few);
      sum = sum (subst (FitsSigned w128) (sym same) held) ∙ same ∙ now.sum ∙ ap total (sym e);
    }

-- ---- many values more
small_front : (xs ys : List ℤ) → AreSmall (xs ++ ys) → AreSmall xs
small_front [] ys h = tt
small_front (x ∷ xs) ys h = (h.0, small_front xs ys h.1)

pub told_many : (s t : Sums) (added : List ℤ) (n : ℕ) (z : ℤ) → n ≡ length added → z ≡ total added → t.count ≡ min (s.count + n) (2 ^ 64 - 1) → (FitsSigned w128 (s.sum +ℤ z) → t.sum ≡ s.sum +ℤ z) → (values : List ℤ) → AreTold values s → AreTold (values ++ added) t
told_many s t added n z many all count sum values told few small =
    let longer : length (values ++ added) ≡ length values + length added = length-append values added in
    let now = told (omega (arith, few, longer)) (small_front values added small) in
    let whole_sum : total (values ++ added) ≡ s.sum +ℤ z = total-append values added ∙ ap (λ x. x +ℤ total added) (sym now.sum) ∙ ap (λ x. s.sum +ℤ x) (sym all) in
    record {
      count = omega (arith, count, now.count, longer, few, many);
      sum = sum (subst (FitsSigned w128) whole_sum (total-fits (values ++ added) few small)) ∙ sym whole_sum;
    }
