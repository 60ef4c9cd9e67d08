-- A row is in the set of a list of ranges exactly where its place is among theirs.
use Rattle.std.proofs.Common.{◌≡◌, ℕ, zero, suc, ◌+◌, ◌-◌, ◌*◌, ◌/◌, ◌%◌, ◌<◌, ◌≤◌, inl, inr, Bool, true, false, Option, None, Some, is_some, MatchOption, ◌&&◌, ◌||◌, eqb, ltb, leb, List, [], ◌∷◌, refl, sym, ap, ◌∙◌, arith}
use Rattle.std.proofs.Math.Bool.{and-false}
use Rattle.std.proofs.lemmas.Bool.{and_parts, and_from, or_from, or_right, cases_Bool, false≢true, leb-true, lt-ltb, ltb-true}
use Rattle.std.proofs.lemmas.Bool.Decides.{nat_tests}
use Rattle.std.proofs.lemmas.List.Folds.{list_any-append}
use Rattle.std.specs.List.{list_any}
use Rattle.std.specs.Ordering.{eq_by_cmp, is_lt, is_eq, nat_cmp, ordering_then}
use Rattle.std.specs.FinSet as set
use Rattle.table_model.specs.Table.{row_limit}
use Rattle.table_model.specs.Name.{row_name_cmp}
use Rattle.table_model.specs.declared.names.BatchName.{BatchName}
use Rattle.table_model.specs.declared.names.RowName.{RowName}
use Rattle.table_model.proofs.NameOrder.{row_names_total, exact_row_names}
use Rattle.catalogue_join.specs.Span.{among, covers, Rises, apart, IsRangeAt, Lacks}
use Rattle.catalogue_join.proofs.Spans.{same_ranges}
use Rattle.catalogue_join.specs.RowRange.{RowRange, row_names, rows_between, rows_listed, rows_in, IsRowRange, stands_apart, AreMaximal, row_place, is_named_range, row_range_shape}
use Rattle.catalogue_join.specs.RowRangeShape.{bounds_of, named_from, row_range_IsShape}

-- names of rows that are the same by their order
abbrev pub same_row : RowName → RowName → Bool
same_row = eq_by_cmp row_name_cmp

-- the row is of the range's batch, and its ordinal is in the range
abbrev pub in_range : RowRange → RowName → Bool
in_range r q = eqb r.0.batch.origin.0 q.batch.origin.0 && (eqb r.0.batch.number.0 q.batch.number.0 && (leb r.0.ordinal q.ordinal && leb q.ordinal r.1))

same_row_is : (q : RowName) (batch : BatchName) (n : ℕ) → same_row q (record { batch = batch; ordinal = n }) ≡ (eqb batch.origin.0 q.batch.origin.0 && (eqb batch.number.0 q.batch.number.0 && (leb n q.ordinal && leb q.ordinal n)))
same_row_is q batch n = grind (arith, nat_tests)

-- one more row at the front of a run of rows
one_more : (o p n m q count : ℕ) (o' m' : ℕ) → ((eqb o o' && (eqb m m' && (leb n q && leb q n))) || (eqb o o' && (eqb m m' && (leb (n + 1) q && ltb q (n + 1 + count))))) ≡ (eqb o o' && (eqb m m' && (leb n q && ltb q (n + suc count))))
one_more o p n m q count o' m' = grind (arith, nat_tests)

row_names_any : (q : RowName) (batch : BatchName) (count n : ℕ) → list_any (same_row q) (row_names batch n count) ≡ (eqb batch.origin.0 q.batch.origin.0 && (eqb batch.number.0 q.batch.number.0 && (leb n q.ordinal && ltb q.ordinal (n + count))))
row_names_any q batch zero n = grind (arith, nat_tests)
row_names_any q batch (suc count) n =
    ap (λ b. b || list_any (same_row q) (row_names batch (n + 1) count)) (same_row_is q batch n)
    ∙ ap (λ b. (eqb batch.origin.0 q.batch.origin.0 && (eqb batch.number.0 q.batch.number.0 && (leb n q.ordinal && leb q.ordinal n))) || b) (row_names_any q batch count (n + 1))
    ∙ one_more batch.origin.0 0 n batch.number.0 q.ordinal count q.batch.origin.0 q.batch.number.0

-- the rows between two ordinals are those of the range
pub rows_between_any : (r : RowRange) (q : RowName) → list_any (same_row q) (rows_between r.0 r.1) ≡ in_range r q
rows_between_any r q =
    row_names_any q r.0.batch (r.1 + 1 - r.0.ordinal) r.0.ordinal
    ∙ ap (λ b. eqb r.0.batch.origin.0 q.batch.origin.0 && (eqb r.0.batch.number.0 q.batch.number.0 && b)) (ends r.0.ordinal r.1 q.ordinal)
  where
    ends : (n m x : ℕ) → (leb n x && ltb x (n + (m + 1 - n))) ≡ (leb n x && leb x m)
    ends n m x = grind (arith, nat_tests)

-- a row's numbers are within their bounds
abbrev pub is_bounded : RowName → Bool
is_bounded q = ltb q.batch.origin.0 4294967296 && (ltb q.batch.number.0 4294967296 && ltb q.ordinal row_limit)

pub record RowBounds (q : RowName) : Type 0 where
  pub origin : q.batch.origin.0 < 4294967296
  pub number : q.batch.number.0 < 4294967296
  pub ordinal : q.ordinal < row_limit

-- the row's place on the line
abbrev pub spot : RowName → ℕ
spot q = row_place q.batch q.ordinal

in_range_covers : (r : RowRange) (q : RowName) → is_named_range r ≡ true → in_range r q ≡ (is_bounded q && covers row_range_shape r (spot q))
in_range_covers r q named =
    let b = bounds_of r named in
    go r.0.batch.origin.0 r.0.batch.number.0 r.0.ordinal r.1 q.batch.origin.0 q.batch.number.0 q.ordinal b.origin b.number b.first b.last
  where
    go : (o n f l o' n' x : ℕ) → o < 4294967296 → n < 4294967296 → f < row_limit → l < row_limit → (eqb o o' && (eqb n n' && (leb f x && leb x l))) ≡ ((ltb o' 4294967296 && (ltb n' 4294967296 && ltb x row_limit)) && (leb ((o * 4294967296 + n) * 131072 + f) ((o' * 4294967296 + n') * 131072 + x) && leb ((o' * 4294967296 + n') * 131072 + x) ((o * 4294967296 + n) * 131072 + l)))
    go o n f l o' n' x ho hn hf hl = grind (arith, nat_tests)

pub and_over_or : (a b c : Bool) → ((a && b) || (a && c)) ≡ (a && (b || c))
and_over_or true b c = refl
and_over_or false b c = refl

rows_listed_any : (rs : List RowRange) (n : ℕ) (q : RowName) → Rises row_range_shape n rs → list_any (same_row q) (rows_listed rs) ≡ (is_bounded q && among row_range_shape rs (spot q))
rows_listed_any [] n q r = sym (and-false (is_bounded q))
rows_listed_any (s ∷ rs) n q r =
    list_any-append (same_row q) (rows_between s.0 s.1) (rows_listed rs)
    ∙ ap (λ b. b || list_any (same_row q) (rows_listed rs)) (rows_between_any s q ∙ in_range_covers s q r.2)
    ∙ ap (λ b. (is_bounded q && covers row_range_shape s (spot q)) || b) (rows_listed_any rs (row_range_shape.high s + 2) q r.3)
    ∙ and_over_or (is_bounded q) (covers row_range_shape s (spot q)) (among row_range_shape rs (spot q))

-- a row is in the set exactly where its place is among those of the ranges
pub contains-rows_in : (rs : List RowRange) (q : RowName) → Rises row_range_shape 0 rs → set.contains (rows_in rs) q ≡ (is_bounded q && among row_range_shape rs (spot q))
unfolding rows_in
contains-rows_in rs q r = set.contains-from_list row_names_total (rows_listed rs) q ∙ rows_listed_any rs 0 q r

-- the set after a range came in
pub rows_in-put : (rs new : List RowRange) (r : RowRange) → Rises row_range_shape 0 rs → Rises row_range_shape 0 new → is_named_range r ≡ true → ((p : ℕ) → among row_range_shape new p ≡ (among row_range_shape rs p || covers row_range_shape r p)) → rows_in new ≡ set.union (rows_in rs) (set.from_list (rows_between r.0 r.1))
rows_in-put rs new r rising risen named places =
    set.same_set row_names_total exact_row_names (rows_in new) (set.union (rows_in rs) (set.from_list (rows_between r.0 r.1)))
    (λ q.
    contains-rows_in new q risen
    ∙ ap (λ b. is_bounded q && b) (places (spot q))
    ∙ sym (and_over_or (is_bounded q) (among row_range_shape rs (spot q)) (covers row_range_shape r (spot q)))
    ∙ ap (λ b. b || (is_bounded q && covers row_range_shape r (spot q))) (sym (contains-rows_in rs q rising))
    ∙ ap (λ b. set.contains (rows_in rs) q || b) (sym (set.contains-from_list row_names_total (rows_between r.0 r.1) q ∙ rows_between_any r q ∙ in_range_covers r q named))
    ∙ sym (set.contains-union row_names_total (rows_in rs) (set.from_list (rows_between r.0 r.1)) q))

-- a range that is not empty has its first row
first_in : (o n f l : ℕ) → f ≤ l → (eqb o o && (eqb n n && (leb f f && leb f l))) ≡ true
first_in o n f l h = grind (arith, nat_tests)

-- where the rows of a range bring nothing to the set, the place of the first of them is there already
pub first_there : (rs : List RowRange) (r : RowRange) → Rises row_range_shape 0 rs → r.0.ordinal ≤ r.1 → set.union (rows_in rs) (set.from_list (rows_between r.0 r.1)) ≡ rows_in rs → among row_range_shape rs (row_range_shape.low r) ≡ true
first_there rs r rising range same =
    let coming : set.FinSet row_name_cmp = set.from_list (rows_between r.0 r.1) in
    let comes : set.contains coming r.0 ≡ true = set.contains-from_list row_names_total (rows_between r.0 r.1) r.0 ∙ rows_between_any r r.0 ∙ first_in r.0.batch.origin.0 r.0.batch.number.0 r.0.ordinal r.1 range in
    let there : set.contains (rows_in rs) r.0 ≡ true = ap (λ (s : set.FinSet row_name_cmp). set.contains s r.0) (sym same) ∙ set.contains-union row_names_total (rows_in rs) coming r.0 ∙ or_right (set.contains (rows_in rs) r.0) (set.contains coming r.0) comes in
    let parts = and_parts (is_bounded r.0) (among row_range_shape rs (spot r.0)) (sym (contains-rows_in rs r.0 rising) ∙ there) in parts.1

-- the set of two lists of ranges that were joined
pub rows_in-joined : (rs ts new : List RowRange) → Rises row_range_shape 0 rs → Rises row_range_shape 0 ts → Rises row_range_shape 0 new → ((p : ℕ) → among row_range_shape new p ≡ (among row_range_shape rs p || among row_range_shape ts p)) → rows_in new ≡ set.union (rows_in rs) (rows_in ts)
rows_in-joined rs ts new rising others risen places =
    set.same_set row_names_total exact_row_names (rows_in new) (set.union (rows_in rs) (rows_in ts))
    (λ q.
    contains-rows_in new q risen
    ∙ ap (λ b. is_bounded q && b) (places (spot q))
    ∙ sym (and_over_or (is_bounded q) (among row_range_shape rs (spot q)) (among row_range_shape ts (spot q)))
    ∙ ap (λ b. b || (is_bounded q && among row_range_shape ts (spot q))) (sym (contains-rows_in rs q rising))
    ∙ ap (λ b. set.contains (rows_in rs) q || b) (sym (contains-rows_in ts q others))
    ∙ sym (set.contains-union row_names_total (rows_in rs) (rows_in ts) q))

pub rows_in-nil : rows_in [] ≡ set.empty
unfolding rows_in
rows_in-nil = refl

-- the row at a place
abbrev row_at : ℕ → RowName
row_at p = record { batch = record { origin = record { 0 = p / 131072 / 4294967296 }; number = record { 0 = p / 131072 % 4294967296 } }; ordinal = p % 131072 }

spot_row_at : (p : ℕ) → spot (row_at p) ≡ p
spot_row_at p = omega arith

-- a place that a range has is that of a row whose numbers are within their bounds
covered_bounded : (r : RowRange) (p : ℕ) → is_named_range r ≡ true → covers row_range_shape r p ≡ true → is_bounded (row_at p) ≡ true
covered_bounded r p named c =
    let b = bounds_of r named in
    let both = and_parts (leb (row_range_shape.low r) p) (leb p (row_range_shape.high r)) c in
    let from = leb-true (row_range_shape.low r) p both.0 in
    let to = leb-true p (row_range_shape.high r) both.1 in
    let whole : p / 131072 ≡ r.0.batch.origin.0 * 4294967296 + r.0.batch.number.0 = omega arith in
    let origin : p / 131072 / 4294967296 < 4294967296 = omega arith in
    let number : p / 131072 % 4294967296 < 4294967296 = omega arith in
    let ordinal : p % 131072 < row_limit = omega arith in
    and_from (ltb (p / 131072 / 4294967296) 4294967296) (ltb (p / 131072 % 4294967296) 4294967296 && ltb (p % 131072) row_limit) (lt-ltb (p / 131072 / 4294967296) 4294967296 origin)
    (and_from (ltb (p / 131072 % 4294967296) 4294967296) (ltb (p % 131072) row_limit) (lt-ltb (p / 131072 % 4294967296) 4294967296 number) (lt-ltb (p % 131072) row_limit ordinal))

among_unbounded : (rs : List RowRange) (n p : ℕ) → Rises row_range_shape n rs → is_bounded (row_at p) ≡ false → among row_range_shape rs p ≡ false
among_unbounded [] n p r h = refl
among_unbounded (s ∷ rs) n p r h =
    or_from (covers row_range_shape s p) (among row_range_shape rs p)
    (elim (cases_Bool (covers row_range_shape s p)) [
      | inl has ↦ absurd (false≢true (sym h ∙ covered_bounded s p r.2 has))
      | inr lacks ↦ lacks
    ])
    (among_unbounded rs (row_range_shape.high s + 2) p r.3 h)

-- a place is among those of the ranges exactly where the row there is in the set
pub among_row_at : (rs : List RowRange) (p : ℕ) → Rises row_range_shape 0 rs → among row_range_shape rs p ≡ set.contains (rows_in rs) (row_at p)
among_row_at rs p r =
    sym (contains-rows_in rs (row_at p) r
    ∙ elim (cases_Bool (is_bounded (row_at p))) [
      | inl within ↦ ap (λ b. b && among row_range_shape rs (spot (row_at p))) within ∙ ap (among row_range_shape rs) (spot_row_at p)
      | inr past ↦ ap (λ b. b && among row_range_shape rs (spot (row_at p))) past ∙ sym (among_unbounded rs 0 p r past)
    ])

-- each set of rows has one list of maximal ranges
pub same_ranges_of_rows : (rs ts : List RowRange) → Rises row_range_shape 0 rs → Rises row_range_shape 0 ts → rows_in rs ≡ rows_in ts → rs ≡ ts
same_ranges_of_rows rs ts r q is =
    same_ranges row_range_shape row_range_IsShape rs ts 0 0 r q
    (λ p. among_row_at rs p r ∙ ap (λ (s : set.FinSet row_name_cmp). set.contains s (row_at p)) is ∙ sym (among_row_at ts p q))

-- ranges that have all places of others have all their rows
pub rows_within : (rs ts : List RowRange) → Rises row_range_shape 0 rs → Rises row_range_shape 0 ts → ((p : ℕ) → among row_range_shape ts p ≡ true → among row_range_shape rs p ≡ true) → set.is_subset (rows_in ts) (rows_in rs) ≡ true
rows_within rs ts rising others has =
    set.contains-is_subset row_names_total (rows_in ts) (rows_in rs)
    (λ q there.
    let parts = and_parts (is_bounded q) (among row_range_shape ts (spot q)) (sym (contains-rows_in ts q others) ∙ there) in
    contains-rows_in rs q rising ∙ and_from (is_bounded q) (among row_range_shape rs (spot q)) parts.0 (has (spot q) parts.1))

-- ranges that lack a place of others lack one of their rows
pub rows_lacking : (rs ts : List RowRange) → Rises row_range_shape 0 rs → Rises row_range_shape 0 ts → Lacks row_range_shape rs ts → set.is_subset (rows_in ts) (rows_in rs) ≡ false
rows_lacking rs ts rising others lacking =
    let row = row_at lacking.place in
    let there : set.contains (rows_in ts) row ≡ true = sym (among_row_at ts lacking.place others) ∙ lacking.among_others in
    let missing : set.contains (rows_in rs) row ≡ false = sym (among_row_at rs lacking.place rising) ∙ lacking.not_among in
    elim (cases_Bool (set.is_subset (rows_in ts) (rows_in rs))) [
      | inl within ↦ absurd (false≢true (sym missing ∙ set.is_subset-contains row_names_total (rows_in ts) (rows_in rs) within row there))
      | inr past ↦ past
    ]

-- by batch and ordinal two ranges stand apart exactly where they do on the line
stands_apart_is : (r q : RowRange) → is_named_range r ≡ true → is_named_range q ≡ true → stands_apart r q ≡ apart row_range_shape r q
stands_apart_is r q n m =
    let a = bounds_of r n in
    let b = bounds_of q m in
    go r.0.batch.origin.0 r.0.batch.number.0 r.1 q.0.batch.origin.0 q.0.batch.number.0 q.0.ordinal a.number a.last b.number b.first
  where
    go : (o n l o' n' f : ℕ) → n < 4294967296 → l < row_limit → n' < 4294967296 → f < row_limit → (is_lt (ordering_then (nat_cmp o o') (nat_cmp n n')) || (is_eq (ordering_then (nat_cmp o o') (nat_cmp n n')) && ltb (l + 1) f)) ≡ ltb ((o * 4294967296 + n) * 131072 + l + 1) ((o' * 4294967296 + n') * 131072 + f)
    go o n l o' n' f hn hl hn' hf = grind (arith, nat_tests)

named_range_of : (r : RowRange) → IsRowRange r → is_named_range r ≡ true
named_range_of r h = named_from r (record { proper = h.proper; origin = h.origin; number = h.number; first = omega (arith, h.not_empty, h.last); last = h.last })

range_of_named : (r : RowRange) → is_named_range r ≡ true → row_range_shape.low r ≤ row_range_shape.high r → IsRowRange r
range_of_named r named range =
    let b = bounds_of r named in
    record { proper = b.proper; origin = b.origin; number = b.number; last = b.last; not_empty = omega arith }

pub rises_from_maximal : (rs : List RowRange) → AreMaximal rs → Rises row_range_shape 0 rs
rises_from_maximal [] m = tt
rises_from_maximal (r ∷ []) m = (omega arith, omega (arith, m.0.not_empty), named_range_of r m.0, tt)
rises_from_maximal (r ∷ q ∷ rs) m =
    let rest = rises_from_maximal (q ∷ rs) m.2 in
    let n = named_range_of r m.0 in
    let gap = ltb-true (row_range_shape.high r + 1) (row_range_shape.low q) (sym (stands_apart_is r q n rest.2) ∙ m.1) in
    (omega arith, omega (arith, m.0.not_empty), n, (omega arith, rest.1, rest.2, rest.3))

pub maximal_from_rises : (rs : List RowRange) (n : ℕ) → Rises row_range_shape n rs → AreMaximal rs
maximal_from_rises [] n r = tt
maximal_from_rises (s ∷ []) n r = (range_of_named s r.2 r.1, tt, tt)
maximal_from_rises (s ∷ q ∷ rs) n r = (
  range_of_named s r.2 r.1,
  stands_apart_is s q r.2 r.3.2 ∙ lt-ltb (row_range_shape.high s + 1) (row_range_shape.low q) (omega (arith, r.3.0)),
  maximal_from_rises (q ∷ rs) (row_range_shape.high s + 2) r.3,
)

-- a search for a row's place tells whether the row is in the set
pub found_is : (rs : List RowRange) (q : RowName) (found : Option RowRange) → Rises row_range_shape 0 rs → is_bounded q ≡ true → MatchOption found (among row_range_shape rs (spot q) ≡ false) (IsRangeAt row_range_shape rs (spot q)) → is_some found ≡ set.contains (rows_in rs) q
found_is rs q None r bounded lacks = sym (contains-rows_in rs q r ∙ ap (λ b. b && among row_range_shape rs (spot q)) bounded ∙ lacks)
found_is rs q (Some s) r bounded h = sym (contains-rows_in rs q r ∙ ap (λ b. b && among row_range_shape rs (spot q)) bounded ∙ h.inside (spot q) h.has)

pub bounded_from : (q : RowName) → q.batch.origin.0 < 4294967296 → q.batch.number.0 < 4294967296 → q.ordinal < row_limit → is_bounded q ≡ true
bounded_from q o n x =
    and_from (ltb q.batch.origin.0 4294967296) (ltb q.batch.number.0 4294967296 && ltb q.ordinal row_limit) (lt-ltb q.batch.origin.0 4294967296 o)
    (and_from (ltb q.batch.number.0 4294967296) (ltb q.ordinal row_limit) (lt-ltb q.batch.number.0 4294967296 n) (lt-ltb q.ordinal row_limit x))
