-- What stands at the rows of a mask, in order.
use Rattle.std.proofs.Common.{◌≡◌, ℕ, zero, suc, ◌+◌, ◌-◌, ◌<◌, ◌≤◌, Bool, true, false, cond, ◌&&◌, List, [], ◌∷◌, ◌++◌, map, length, Option, Some, None, count_by, refl, sym, ap, ◌∙◌, arith, length-append}
use Rattle.std.specs.List.{range_with_len, cons_option}
use Rattle.std.proofs.lemmas.List.Sums.{sum_by-cons}
use Rattle.table_model.specs.Values.{present}
use Rattle.transpose_order.specs.Mask.{rows_of, has}
use Rattle.query_eval.proofs.Lifted.{rows_of-alike, none_present}
use Rattle.query_eval.proofs.RowsBelow.{present_more}
use Rattle.live_columns.specs.Chosen.{picked}

-- the same below a row
abbrev pub picked_below : {X : Type 0} → ℕ → List Bool → (ℕ → X) → List X
picked_below k mask item = present (map (λ n. cond (has mask n) (Some (item n)) None) (range_with_len 0 k))

-- one row more
pub picked_more : {X : Type 0} (k : ℕ) (mask : List Bool) (item : ℕ → X) (b : Bool) → has mask k ≡ b → picked_below (k + 1) mask item ≡ picked_below k mask item ++ cond b (item k ∷ []) []
picked_more k mask item b is = present_more (λ n. cond (has mask n) (Some (item n)) None) k b (item k) (ap (λ c. cond c (Some (item k)) None) is)

-- all rows
pub picked_all : {X : Type 0} (k : ℕ) (mask : List Bool) (item : ℕ → X) → k ≡ 1024 → picked_below k mask item ≡ picked mask item
unfolding rows_of
picked_all k mask item e = ap (λ n. picked_below n mask item) e

longer : {X : Type 0} (k j : ℕ) (mask : List Bool) (item : ℕ → X) → length (picked_below k mask item) ≤ length (picked_below (k + j) mask item)
longer k zero mask item = omega (arith, ap (λ n. length (picked_below n mask item)) (let e : k + zero ≡ k = omega arith in e))
longer k (suc j) mask item =
    omega (
      arith,
      longer k j mask item,
      ap (λ n. length (picked_below n mask item)) (let e : k + suc j ≡ (k + j) + 1 = omega arith in e),
      ap length (picked_more (k + j) mask item (has mask (k + j)) refl),
      length-append (picked_below (k + j) mask item) (cond (has mask (k + j)) (item (k + j) ∷ []) []),
    )

-- those below a row and the row itself are among all
pub picked_room : {X : Type 0} (k : ℕ) (mask : List Bool) (item : ℕ → X) → k < 1024 → has mask k ≡ true → length (picked_below k mask item) + 1 ≤ length (picked mask item)
picked_room k mask item l on =
    omega (
      arith,
      longer (k + 1) (1023 - k) mask item,
      ap length (picked_all (k + 1 + (1023 - k)) mask item (let e : k + 1 + (1023 - k) ≡ 1024 = omega (arith, l) in e)),
      ap length (picked_more k mask item true on),
      length-append (picked_below k mask item) (item k ∷ []),
    )

one_mapped : {X Y : Type 0} (h : X → Y) (b : Bool) (x : X) (xs : List X) (ys : List Y) → ys ≡ map h xs → cons_option (cond b (Some (h x)) None) ys ≡ map h (cons_option (cond b (Some x) None) xs)
one_mapped h true x xs ys e = ap (λ l. h x ∷ l) e
one_mapped h false x xs ys e = e

mapped : {X Y : Type 0} (h : X → Y) (p : ℕ → Bool) (f : ℕ → X) (ns : List ℕ) → present (map (λ n. cond (p n) (Some (h (f n))) None) ns) ≡ map h (present (map (λ n. cond (p n) (Some (f n)) None) ns))
mapped h p f [] = refl
mapped h p f (n ∷ ns) = one_mapped h (p n) (f n) _ _ (mapped h p f ns)

all_mapped : {X Y : Type 0} (h : X → Y) (mask : List Bool) (f : ℕ → X) → picked mask (λ n. h (f n)) ≡ map h (picked mask f)
unfolding rows_of
all_mapped h mask f = mapped h (has mask) f (range_with_len 0 1024)

-- items that are made of others, one by one
pub picked-map : {X Y : Type 0} (h : X → Y) (mask : List Bool) (f : ℕ → X) (g : ℕ → Y) → ((n : ℕ) → n < 1024 → g n ≡ h (f n)) → picked mask g ≡ map h (picked mask f)
picked-map h mask f g same =
    ap present (rows_of-alike (λ n. cond (has mask n) (Some (g n)) None) (λ n. cond (has mask n) (Some (h (f n))) None) None (λ n l. ap (λ y. cond (has mask n) (Some y) None) (same n l)))
    ∙ all_mapped h mask f

-- no row, no item
pub picked-none : {X : Type 0} (mask : List Bool) (f : ℕ → X) → ((n : ℕ) → n < 1024 → has mask n ≡ false) → picked mask f ≡ []
picked-none mask f none = none_present (λ n. cond (has mask n) (Some (f n)) None) (λ n l. ap (λ b. cond b (Some (f n)) None) (none n l))

one_counted : {X : Type 0} (q : X → Bool) (b : Bool) (x : X) (xs : List X) (bs : List Bool) → count_by q xs ≡ count_by (λ y. y) bs → count_by q (cons_option (cond b (Some x) None) xs) ≡ count_by (λ y. y) ((b && q x) ∷ bs)
one_counted q true x xs bs e = omega (arith, e, sum_by-cons (λ (y : Bool). cond y 1 0) (q x) bs, sum_by-cons (λ y. cond (q y) 1 0) x xs)
one_counted q false x xs bs e = omega (arith, e, sum_by-cons (λ (y : Bool). cond y 1 0) false bs)

counted : {X : Type 0} (q : X → Bool) (p : ℕ → Bool) (f : ℕ → X) (ns : List ℕ) → count_by q (present (map (λ n. cond (p n) (Some (f n)) None) ns)) ≡ count_by (λ y. y) (map (λ n. p n && q (f n)) ns)
counted q p f [] = refl
counted q p f (n ∷ ns) = one_counted q (p n) (f n) (present (map (λ m. cond (p m) (Some (f m)) None) ns)) (map (λ m. p m && q (f m)) ns) (counted q p f ns)

-- how many items pass a test
pub picked-count : {X : Type 0} (q : X → Bool) (mask : List Bool) (f : ℕ → X) → count_by q (picked mask f) ≡ count_by (λ y. y) (rows_of (λ n. has mask n && q (f n)))
unfolding rows_of
picked-count q mask f = counted q (has mask) f (range_with_len 0 1024)
