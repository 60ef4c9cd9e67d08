-- The greatest of turned numbers is the extreme that is asked for, turned.
use Rattle.std.proofs.Common.{◌≡◌, ◌≢◌, ℕ, zero, suc, ◌+◌, ◌-◌, ◌*◌, ◌^◌, ◌<◌, Bool, true, false, cond, ℤ, negsuc, ◌-ℤ◌, FitsSigned, to_z, of_z, List, [], ◌∷◌, map, Option, Some, None, refl, sym, ap, ◌∙◌, subst, arith}
use Rattle.std.specs.Int.{w64, int_min, int_max}
use Rattle.std.specs.List.{range_with_len}
use Rattle.std.proofs.lemmas.Int.{ints, clamps, to_z-of_z}
use Rattle.table_model.specs.Values.{present, greater}
use Rattle.table_model.proofs.Appended.{greater-assoc}
use Rattle.table_model.proofs.Extremes.{extreme-append, no_extreme as none_extreme, turned_twice}
use Rattle.transpose_order.specs.Place.{IsLaneWidth, place_of}
use Rattle.transpose_order.specs.Mask.{rows_of, count_below}
use Rattle.transpose_order.proofs.MaskLemmas.{count_below-zero, count_below-suc}
use Rattle.native_lanes.specs.Folds.{fold_to}
use Rattle.table_model.specs.declared.extreme.Extreme.{Extreme}
use Rattle.table_model.specs.declared.extreme.Extreme.TheVariants.{Least, Greatest}
use Rattle.table_model.specs.Extreme.{extreme_of, further, turned}
use Rattle.fused_kernels.specs.Seen.{LanesSeen, looked_cell, values_looked_at}
use Rattle.frame_delta.proofs.PieceRows.{row_of_piece}
use Rattle.native_lanes.proofs.FoldLemmas.{IsJoin, fold_to-zero, fold_to-suc, fold_to-same, fold_to-pieces}
use Rattle.fused_kernels.proofs.SumLemmas.{present-more}

-- the least number of 64 bits, with which a greatest begins
abbrev pub bottom : ℤ
bottom = negsuc (2 ^ 63 - 1)

-- the value, or the least number of 64 bits where there is none
abbrev pub or_bottom : Option ℤ → ℤ
or_bottom None = bottom
or_bottom (Some z) = z

-- ---- the greatest
greater-comm : (a b : Option ℤ) → greater a b ≡ greater b a
greater-comm None None = refl
greater-comm None (Some y) = refl
greater-comm (Some x) None = refl
greater-comm (Some x) (Some y) = ap Some (comm x y)
  where
    comm : (x y : ℤ) → int_max x y ≡ int_max y x
    comm x y = omega (arith, ints, clamps)

greater-unit : (a : Option ℤ) → greater a None ≡ a
greater-unit None = refl
greater-unit (Some x) = refl

pub greater_is_join : IsJoin greater None
greater_is_join = record { unit = greater-unit; assoc = λ a b c. sym (greater-assoc a b c); comm = greater-comm }

-- a call of the greater of two numbers, as its arguments are passed
pub passed_greater : (taken b : Bool) (x a n : ℤ) → FitsSigned w64 x → FitsSigned w64 a → FitsSigned w64 n → taken ≡ b → x ≡ cond taken (int_max (to_z w64 (of_z w64 a)) (to_z w64 (of_z w64 n))) (to_z w64 (of_z w64 a)) → to_z w64 (of_z w64 x) ≡ cond b (int_max a n) a
passed_greater taken b x a n fx fa fn same is =
    to_z-of_z w64 x fx ∙ is
    ∙ ap (λ z. cond taken (int_max z (to_z w64 (of_z w64 n))) z) (to_z-of_z w64 a fa)
    ∙ ap (λ z. cond taken (int_max a z) a) (to_z-of_z w64 n fn)
    ∙ ap (λ t. cond t (int_max a n) a) same

-- one more row, which is looked at or not
pub taken_by_greater : (b : Bool) (o : Option ℤ) (v : ℤ) → FitsSigned w64 v → cond b (int_max (or_bottom o) v) (or_bottom o) ≡ or_bottom (greater o (cond b (Some v) None))
taken_by_greater true None v fits = omega (arith, ints, clamps)
taken_by_greater true (Some x) v fits = refl
taken_by_greater false None v fits = refl
taken_by_greater false (Some x) v fits = refl

joined_greater : (a b : Option ℤ) → FitsSigned w64 (or_bottom a) → FitsSigned w64 (or_bottom b) → (int_max (or_bottom a) (or_bottom b) ≡ or_bottom (greater a b)) × FitsSigned w64 (or_bottom (greater a b))
joined_greater None None fa fb = (refl, fa)
joined_greater None (Some y) fa fb = (omega (arith, ints, clamps), fb)
joined_greater (Some x) None fa fb = (omega (arith, ints, clamps), fa)
joined_greater (Some x) (Some y) fa fb = (refl, either x y fa fb)
  where
    either : (x y : ℤ) → FitsSigned w64 x → FitsSigned w64 y → FitsSigned w64 (int_max x y)
    either x y fx fy = record { sfits = grind (arith, ints) }

-- the greatest of some lanes
greatest_of_lanes : (k : ℕ) (f : ℕ → Option ℤ) (xs : ℕ → ℤ) → ((i : ℕ) → i < k → FitsSigned w64 (xs i)) → ((i : ℕ) → i < k → xs i ≡ or_bottom (f i)) → (fold_to int_max bottom k xs ≡ or_bottom (fold_to greater None k f)) × FitsSigned w64 (or_bottom (fold_to greater None k f))
greatest_of_lanes zero f xs fits is =
    let none = sym (fold_to-zero greater None f) in
    (fold_to-zero int_max bottom xs ∙ ap or_bottom none, subst (λ o. FitsSigned w64 (or_bottom o)) none (record { sfits = grind (arith, ints) }))
greatest_of_lanes (suc k) f xs fits is =
    let front = greatest_of_lanes k f xs (λ i l. fits i (omega arith)) (λ i l. is i (omega arith)) in
    let last : FitsSigned w64 (or_bottom (f k)) = subst (λ z. FitsSigned w64 z) (is k (omega arith)) (fits k (omega arith)) in
    let both = joined_greater (fold_to greater None k f) (f k) front.1 last in
    let more = sym (fold_to-suc greater None k f) in (
      fold_to-suc int_max bottom k xs ∙ ap (λ z. int_max z (xs k)) front.0 ∙ ap (int_max (or_bottom (fold_to greater None k f))) (is k (omega arith)) ∙ both.0 ∙ ap or_bottom more,
      subst (λ o. FitsSigned w64 (or_bottom o)) more both.1,
    )

pub cell_fits : (b : Bool) (v : ℤ) → FitsSigned w64 v → FitsSigned w64 (or_bottom (cond b (Some v) None))
cell_fits true v fits = fits
cell_fits false v fits = record { sfits = grind (arith, ints) }

-- the greatest of all rows, from that of each of sixteen lanes
pub greatest_by_lanes : (f : ℕ → Option ℤ) (t : ℕ) (xs : ℕ → ℤ) → IsLaneWidth t → ((n : ℕ) → n < 1024 → FitsSigned w64 (or_bottom (f n)))
    → ((i : ℕ) → i < 16 → xs i ≡ or_bottom (fold_to greater None 64 (λ q. f (64 * i + place_of t q))))
    → fold_to int_max bottom 16 xs ≡ or_bottom (fold_to greater None 1024 f)
greatest_by_lanes f t xs width fit lanes =
    let fits : (i : ℕ) → i < 16 → FitsSigned w64 (xs i) = (λ i h.
    subst (λ z. FitsSigned w64 z) (sym (lanes i h)) (greatest_of_lanes 64 (λ q. f (64 * i + place_of t q)) (λ q. or_bottom (f (64 * i + place_of t q)))
    (λ q l. fit (64 * i + place_of t q) (row_of_piece t q i width l h).0) (λ q l. refl)).1) in
    (greatest_of_lanes 16 (λ i. fold_to greater None 64 (λ q. f (64 * i + place_of t q))) xs fits lanes).0
    ∙ ap or_bottom (fold_to-pieces greater None greater_is_join t f width)

-- there is a value exactly where so many rows are some
abbrev Tells : ℕ → Option ℤ → Type 0
Tells k None = k ≡ 0
Tells k (Some z) = 0 < k

tells_greater : (k : ℕ) (o : Option ℤ) (b : Bool) (v : ℤ) → Tells k o → Tells (k + cond b 1 0) (greater o (cond b (Some v) None))
tells_greater k None true v t = omega arith
tells_greater k None false v t = omega arith
tells_greater k (Some x) true v t = omega arith
tells_greater k (Some x) false v t = omega arith

greatest_tells : (b : ℕ → Bool) (v : ℕ → ℤ) (k : ℕ) → Tells (count_below b k) (fold_to greater None k (λ i. cond (b i) (Some (v i)) None))
greatest_tells b v zero = subst (Tells (count_below b 0)) (sym (fold_to-zero greater None (λ i. cond (b i) (Some (v i)) None))) (count_below-zero b)
greatest_tells b v (suc k) =
    let f : ℕ → Option ℤ = λ i. cond (b i) (Some (v i)) None in
    subst (Tells (count_below b (suc k))) (sym (fold_to-suc greater None k f))
    (subst (λ n. Tells n (greater (fold_to greater None k f) (f k))) (sym (count_below-suc b k)) (tells_greater (count_below b k) (fold_to greater None k f) (b k) (v k) (greatest_tells b v k)))

tells_none : (k : ℕ) (o : Option ℤ) → Tells k o → k ≡ 0 → o ≡ None
tells_none k None t e = refl
tells_none k (Some z) t e = absurd (omega (arith, t, e))

tells_some : (k : ℕ) (o : Option ℤ) → Tells k o → k ≢ 0 → Some (or_bottom o) ≡ o
tells_some k None t n = absurd (n t)
tells_some k (Some z) t n = refl

-- ---- either extreme, by the greatest of turned numbers
pub turned_fits : (side : Extreme) (z : ℤ) → FitsSigned w64 z → FitsSigned w64 (turned side z)
turned_fits Least z fits = record { sfits = grind (arith, ints) }
turned_fits Greatest z fits = fits

-- a cell whose value is turned
abbrev pub turned_cell : Extreme → Option ℤ → Option ℤ
turned_cell side None = None
turned_cell side (Some z) = Some (turned side z)

cell_twice : (side : Extreme) (o : Option ℤ) → turned_cell side (turned_cell side o) ≡ o
cell_twice side None = refl
cell_twice side (Some z) = ap Some (turned_twice side z)

further_turned : (side : Extreme) (a b : Option ℤ) → further side a b ≡ turned_cell side (greater (turned_cell side a) (turned_cell side b))
further_turned Greatest None b = sym (cell_twice Greatest b)
further_turned Greatest (Some x) None = refl
further_turned Greatest (Some x) (Some y) = refl
further_turned Least None b = sym (cell_twice Least b)
further_turned Least (Some x) None = sym (cell_twice Least (Some x))
further_turned Least (Some x) (Some y) = ap Some (least x y)
  where
    least : (x y : ℤ) → int_min x y ≡ negsuc 0 -ℤ int_max (negsuc 0 -ℤ x) (negsuc 0 -ℤ y)
    least x y = omega (arith, ints, clamps)

turned_fold : (side : Extreme) (f : ℕ → Option ℤ) (k : ℕ) → fold_to (further side) None k f ≡ turned_cell side (fold_to greater None k (λ n. turned_cell side (f n)))
turned_fold side f zero = fold_to-zero (further side) None f ∙ sym (ap (turned_cell side) (fold_to-zero greater None (λ n. turned_cell side (f n))))
turned_fold side f (suc k) =
    let so_far = fold_to greater None k (λ n. turned_cell side (f n)) in
    fold_to-suc (further side) None k f ∙ ap (λ o. further side o (f k)) (turned_fold side f k) ∙ further_turned side (turned_cell side so_far) (f k)
    ∙ ap (λ o. turned_cell side (greater o (turned_cell side (f k)))) (cell_twice side so_far)
    ∙ sym (ap (turned_cell side) (fold_to-suc greater None k (λ n. turned_cell side (f n))))

-- the extreme of some rows, by the greatest of their turned values
pub turned_rows : (side : Extreme) (b : ℕ → Bool) (v : ℕ → ℤ) (k : ℕ) → fold_to (further side) None k (λ n. cond (b n) (Some (v n)) None) ≡ turned_cell side (fold_to greater None k (λ n. cond (b n) (Some (turned side (v n))) None))
turned_rows side b v k =
    turned_fold side (λ n. cond (b n) (Some (v n)) None) k
    ∙ ap (turned_cell side) (fold_to-same greater None k (λ n. turned_cell side (cond (b n) (Some (v n)) None)) (λ n. cond (b n) (Some (turned side (v n))) None) (λ n h. by_truth (b n) (v n)))
  where
    by_truth : (b : Bool) (z : ℤ) → turned_cell side (cond b (Some z) None) ≡ cond b (Some (turned side z)) None
    by_truth true z = refl
    by_truth false z = refl

pub no_extreme : (side : Extreme) (b : ℕ → Bool) (v : ℕ → ℤ) (k : ℕ) → count_below b k ≡ 0 → None ≡ fold_to (further side) None k (λ n. cond (b n) (Some (v n)) None)
no_extreme side b v k none =
    let found = fold_to greater None k (λ n. cond (b n) (Some (turned side (v n))) None) in
    sym (turned_rows side b v k ∙ ap (turned_cell side) (tells_none (count_below b k) found (greatest_tells b (λ n. turned side (v n)) k) none))

pub some_extreme : (side : Extreme) (b : ℕ → Bool) (v : ℕ → ℤ) (k : ℕ) → count_below b k ≢ 0
    → Some (turned side (or_bottom (fold_to greater None k (λ n. cond (b n) (Some (turned side (v n))) None)))) ≡ fold_to (further side) None k (λ n. cond (b n) (Some (v n)) None)
some_extreme side b v k some =
    let found = fold_to greater None k (λ n. cond (b n) (Some (turned side (v n))) None) in
    ap (turned_cell side) (tells_some (count_below b k) found (greatest_tells b (λ n. turned side (v n)) k) some) ∙ sym (turned_rows side b v k)

-- ---- the values looked at
extreme_of_one : (side : Extreme) (o : Option ℤ) → extreme_of side (present (o ∷ [])) ≡ o
extreme_of_one Least None = refl
extreme_of_one Least (Some z) = refl
extreme_of_one Greatest None = refl
extreme_of_one Greatest (Some z) = refl

extreme-cells : (side : Extreme) (f : ℕ → Option ℤ) (n : ℕ) → extreme_of side (present (map f (range_with_len 0 n))) ≡ fold_to (further side) None n f
extreme-cells side f zero = none_extreme side ∙ sym (fold_to-zero (further side) None f)
extreme-cells side f (suc n) =
    ap (extreme_of side) (present-more f n) ∙ extreme-append side (present (map f (range_with_len 0 n))) (present (f n ∷ []))
    ∙ ap (λ o. further side o (extreme_of side (present (f n ∷ [])))) (extreme-cells side f n) ∙ ap (further side (fold_to (further side) None n f)) (extreme_of_one side (f n))
    ∙ sym (fold_to-suc (further side) None n f)

pub extreme-looked_at : (side : Extreme) (s : LanesSeen) (mask : List Bool) → extreme_of side (values_looked_at s mask) ≡ fold_to (further side) None 1024 (looked_cell s mask)
unfolding values_looked_at rows_of
extreme-looked_at side s mask = extreme-cells side (looked_cell s mask) 1024
