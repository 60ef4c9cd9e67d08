-- The maximal ranges of a set of rows are the one list of ranges that don't touch and have these rows.
use Rattle.std.proofs.Common.{◌≡◌, ℕ, zero, suc, ◌+◌, ◌-◌, ◌*◌, ◌<◌, ◌≤◌, true, false, ◌&&◌, ◌||◌, eqb, ltb, IsTrue, List, [], ◌∷◌, ◌++◌, refl, sym, ap, subst, ◌∙◌, arith}
use Rattle.std.proofs.lemmas.Bool.Decides.{nat_tests}
use Rattle.std.specs.List.{AllByRecursion}
use Rattle.std.specs.List.Sorted.{IsStrictlySortedBy}
use Rattle.std.specs.Ordering.{nat_cmp, ordering_then, is_lt, is_eq}
use Rattle.std.specs.declared.cmp.Ordering.TheVariants.{Less}
use Rattle.std.specs.FinSet as set
use Rattle.table_model.specs.Table.{row_limit}
use Rattle.table_model.specs.Name.{row_name_cmp}
use Rattle.table_model.specs.declared.names.BatchName.{BatchName}
use Rattle.table_model.specs.declared.names.RowName.{RowName}
use Rattle.table_model.proofs.NameOrder.{row_names_total, exact_row_names}
use Rattle.catalogue_join.specs.RowRange.{RowRange, row_names, rows_listed, rows_in, IsRowRange, stands_apart, IsBefore, AreMaximal, row_place}
use Rattle.catalogue_join.proofs.SortedLists.{same_sorted}
use Rattle.column_file.specs.Ordered.{in_order}
use Rattle.column_file.specs.Files.{is_just_before, with_row, gathered, ranges_of}
use Rattle.column_file.proofs.OrderedLists.{ascending-in_order, members-in_order}

-- ---- gathering

abbrev row_at : BatchName → ℕ → RowName
row_at batch n = record { batch = batch; ordinal = n }

apart_numbers : (o n m o' n' x : ℕ) → (is_lt (ordering_then (nat_cmp o o') (nat_cmp n n')) || (is_eq (ordering_then (nat_cmp o o') (nat_cmp n n')) && ltb (m + 1) x)) ≡ true → (eqb o o' && (eqb n n' && eqb (m + 1) x)) ≡ false
apart_numbers o n m o' n' x h = grind (arith, nat_tests)

-- the last row of a range does not stand just before a range apart from it
not_before : (batch : BatchName) (n m : ℕ) (r : RowRange) → stands_apart (row_at batch n, m) r ≡ true → is_just_before (row_at batch m) r.0 ≡ false
not_before batch n m r apart = apart_numbers batch.origin.0 batch.number.0 m r.0.batch.origin.0 r.0.batch.number.0 r.0.ordinal apart

just_numbers : (o n m x : ℕ) → m + 1 ≡ x → (eqb o o && (eqb n n && eqb (m + 1) x)) ≡ true
just_numbers o n m x h = grind (arith, nat_tests)

one_range : (batch : BatchName) (n : ℕ) (rs : List RowRange) → IsBefore (row_at batch n, n) rs → with_row (row_at batch n) rs ≡ (row_at batch n, n) ∷ rs
one_range batch n [] before = refl
one_range batch n (r ∷ rs) before = rw (not_before batch n n r before) refl

longer : (batch : BatchName) (n next last : ℕ) (rs : List RowRange) → n + 1 ≡ next → with_row (row_at batch n) ((row_at batch next, last) ∷ rs) ≡ (row_at batch n, last) ∷ rs
longer batch n next last rs e = rw (just_numbers batch.origin.0 batch.number.0 n next e) refl

abbrev ranges_from : RowName → ℕ → List RowRange → List RowRange
ranges_from q last rs = (q, last) ∷ rs

gathers : (batch : BatchName) (count n : ℕ) (rest : List RowName) (rs : List RowRange) → gathered rest ≡ rs → IsBefore (row_at batch n, n + count) rs → gathered (row_names batch n (suc count) ++ rest) ≡ ranges_from (row_at batch n) (n + count) rs
gathers batch zero n rest rs e before =
    let same : n + 0 ≡ n = omega arith in
    let P : ℕ → Type 0 = λ m. IsBefore (row_at batch n, m) rs in
    ap (with_row (row_at batch n)) e ∙ one_range batch n rs (subst P same before) ∙ ap (λ (m : ℕ). ranges_from (row_at batch n) m rs) (sym same)
gathers batch (suc count) n rest rs e before =
    let last : n + suc count ≡ (n + 1) + count = omega arith in
    let step = gathers batch count (n + 1) rest rs e (moved rs (subst (λ (m : ℕ). IsBefore (row_at batch n, m) rs) last before)) in
    ap (with_row (row_at batch n)) step ∙ longer batch n (n + 1) ((n + 1) + count) rs refl ∙ ap (λ (m : ℕ). ranges_from (row_at batch n) m rs) (sym last)
  where
    moved : (rs : List RowRange) → IsBefore (row_at batch n, (n + 1) + count) rs → IsBefore (row_at batch (n + 1), (n + 1) + count) rs
    moved [] b = tt
    moved (r ∷ rs) b = b

before_same : (r : RowRange) (m : ℕ) (rs : List RowRange) → m ≡ r.1 → IsBefore r rs → IsBefore (row_at r.0.batch r.0.ordinal, m) rs
before_same r m [] e b = tt
before_same r m (q ∷ rs) e b = let P : ℕ → Type 0 = λ k. IsTrue (stands_apart (row_at r.0.batch r.0.ordinal, k) q) in subst P (sym e) b

pub gathered_listed : (rs : List RowRange) → AreMaximal rs → gathered (rows_listed rs) ≡ rs
gathered_listed [] h = refl
gathered_listed (r ∷ rs) h =
    let order = h.0 in
    let within : r.0.ordinal ≤ r.1 = order.not_empty in
    let count : r.1 + 1 - r.0.ordinal ≡ suc (r.1 - r.0.ordinal) = omega arith in
    let last : r.0.ordinal + (r.1 - r.0.ordinal) ≡ r.1 = omega arith in
    ap (λ (k : ℕ). gathered (row_names r.0.batch r.0.ordinal k ++ rows_listed rs)) count
    ∙ gathers r.0.batch (r.1 - r.0.ordinal) r.0.ordinal (rows_listed rs) rs (gathered_listed rs h.2) (before_same r (r.0.ordinal + (r.1 - r.0.ordinal)) rs last h.1)
    ∙ ap (λ (m : ℕ). ranges_from r.0 m rs) last

-- ---- rows in order

abbrev place : RowName → ℕ
place q = row_place q.batch q.ordinal

-- rows in ascending order of their places, from n on
abbrev climbs : ℕ → List RowName → Type 0
climbs n [] = Unit {0}
climbs n (q ∷ qs) = (n ≤ place q) × (q.batch.origin.0 < 4294967296) × (q.batch.number.0 < 4294967296) × (q.ordinal < row_limit) × climbs (place q + 1) qs

climbs_lower : (qs : List RowName) (n m : ℕ) → climbs n qs → m ≤ n → climbs m qs
climbs_lower [] n m c h = tt
climbs_lower (q ∷ qs) n m c h = (omega (arith, c.0), c.1, c.2, c.3, c.4)

less_numbers : (o n x o' n' x' : ℕ) → n < 4294967296 → n' < 4294967296 → x < row_limit → x' < row_limit → (o * 4294967296 + n) * 131072 + x < (o' * 4294967296 + n') * 131072 + x'
    → ordering_then (ordering_then (nat_cmp o o') (nat_cmp n n')) (nat_cmp x x') ≡ Less
less_numbers o n x o' n' x' hn hn' hx hx' h = grind (arith, nat_tests)

all_above : (q : RowName) (qs : List RowName) (n : ℕ) → q.batch.number.0 < 4294967296 → q.ordinal < row_limit → place q < n → climbs n qs → AllByRecursion (λ p. row_name_cmp q p ≡ Less) qs
all_above q [] n b x h c = tt
all_above q (p ∷ qs) n b x h c =
    (less_numbers q.batch.origin.0 q.batch.number.0 q.ordinal p.batch.origin.0 p.batch.number.0 p.ordinal b c.2 x c.3 (omega (arith, c.0)), all_above q qs (place p + 1) b x (omega (arith, c.0)) c.4)

ascending : (qs : List RowName) (n : ℕ) → climbs n qs → IsStrictlySortedBy row_name_cmp qs
unfolding IsStrictlySortedBy
ascending [] n c = tt
ascending (q ∷ qs) n c = (all_above q qs (place q + 1) c.2 c.3 (omega arith) c.4, ascending qs (place q + 1) c.4)

rows_climb : (batch : BatchName) (count k n : ℕ) (rest : List RowName) → batch.origin.0 < 4294967296 → batch.number.0 < 4294967296 → k + count ≤ row_limit → n ≤ row_place batch k → climbs (row_place batch (k + count)) rest → climbs n (row_names batch k count ++ rest)
rows_climb batch zero k n rest o m b h c = climbs_lower rest (row_place batch (k + 0)) n c (omega arith)
rows_climb batch (suc count) k n rest o m b h c =
    (h, o, m, omega arith, rows_climb batch count (k + 1) (row_place batch k + 1) rest o m (omega arith) (omega arith) (climbs_lower rest (row_place batch (k + suc count)) (row_place batch (k + 1 + count)) c (omega arith)))

after_numbers : (o n m o' n' x : ℕ) → n < 4294967296 → n' < 4294967296 → m < row_limit → x < row_limit → (is_lt (ordering_then (nat_cmp o o') (nat_cmp n n')) || (is_eq (ordering_then (nat_cmp o o') (nat_cmp n n')) && ltb (m + 1) x)) ≡ true
    → (o * 4294967296 + n) * 131072 + (m + 1) ≤ (o' * 4294967296 + n') * 131072 + x
after_numbers o n m o' n' x hn hn' hm hx h = grind (arith, nat_tests)

-- the first of the ranges begins at n or later
abbrev Begins : ℕ → List RowRange → Type 0
Begins n [] = Unit {0}
Begins n (r ∷ rs) = n ≤ row_place r.0.batch r.0.ordinal

listed_climb : (rs : List RowRange) (n : ℕ) → AreMaximal rs → Begins n rs → climbs n (rows_listed rs)
listed_climb [] n h begins = tt
listed_climb (r ∷ rs) n h begins =
    let one = h.0 in
    let within : r.0.ordinal ≤ r.1 = one.not_empty in
    let last : r.1 < row_limit = one.last in
    let far : r.0.ordinal + (r.1 + 1 - r.0.ordinal) ≡ r.1 + 1 = omega arith in
    let rest = listed_climb rs (row_place r.0.batch (r.1 + 1)) h.2 (next r rs one h.1 h.2) in
    rows_climb r.0.batch (r.1 + 1 - r.0.ordinal) r.0.ordinal n (rows_listed rs) one.origin one.number (omega arith) begins (subst (λ (k : ℕ). climbs (row_place r.0.batch k) (rows_listed rs)) (sym far) rest)
  where
    next : (r : RowRange) (rs : List RowRange) → IsRowRange r → IsBefore r rs → AreMaximal rs → Begins (row_place r.0.batch (r.1 + 1)) rs
    next r [] one before h = tt
    next r (q ∷ rs) one before h =
        let other = h.0 in
        let short : q.0.ordinal < row_limit = (let a = other.not_empty in let b = other.last in omega arith) in
        after_numbers r.0.batch.origin.0 r.0.batch.number.0 r.1 q.0.batch.origin.0 q.0.batch.number.0 q.0.ordinal one.number other.number one.last short before

-- ---- the one list

pub ranges_are : (rs : List RowRange) (deleted : set.FinSet row_name_cmp) → AreMaximal rs → rows_in rs ≡ deleted → ranges_of deleted ≡ rs
unfolding rows_in ranges_of
ranges_are rs deleted maximal is =
    let same : in_order row_name_cmp deleted ≡ rows_listed rs =
    same_sorted row_name_cmp row_names_total exact_row_names (in_order row_name_cmp deleted) (rows_listed rs) (ascending-in_order row_name_cmp row_names_total deleted) (ascending (rows_listed rs) 0 (listed_climb rs 0 maximal (from_zero rs)))
    (λ q. members-in_order row_name_cmp row_names_total deleted q ∙ ap (λ (s : set.FinSet row_name_cmp). set.contains s q) (sym is) ∙ set.contains-from_list row_names_total (rows_listed rs) q) in
    ap gathered same ∙ gathered_listed rs maximal
  where
    from_zero : (rs : List RowRange) → Begins 0 rs
    from_zero [] = tt
    from_zero (r ∷ rs) = omega arith
