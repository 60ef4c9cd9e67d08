-- The names of runs ascend: each has a rank, and the ranks climb.
use Rattle.std.proofs.Common.{◌≡◌, ℕ, zero, suc, ◌+◌, ◌-◌, ◌*◌, ◌<◌, ◌≤◌, inl, inr, Bool, true, false, cond, not, Some, ◌&&◌, ◌||◌, eqb, leb, List, [], ◌∷◌, ◌++◌, length, take, drop, get_or, refl, sym, ap, ◌∙◌, arith}
use Rattle.std.proofs.Math.Bool.{and-false}
use Rattle.std.proofs.lemmas.Bool.{and_parts, leb-true, cond_both, or_from, and_right, cases_lt, cond-true, cond-false}
use Rattle.std.proofs.lemmas.Bool.Decides.{nat_tests}
use Rattle.std.proofs.lemmas.List.{length-append, append_assoc, append-nil, take-append-drop, take_more, drop_more}
use Rattle.std.specs.List.{list_any, filter, slice_get, AllByRecursion}
use Rattle.std.specs.List.Sorted.{IsStrictlySortedBy}
use Rattle.std.specs.Ordering.{nat_cmp, ordering_then}
use Rattle.std.specs.declared.cmp.Ordering.TheVariants.{Less}
use Rattle.std.specs.Cmp.{Equal-is}
use Rattle.std.specs.FinSet as set
use Rattle.table_model.specs.Name.{name_cmp}
use Rattle.table_model.specs.declared.names.Origin.{Origin}
use Rattle.table_model.specs.declared.names.BatchName.{BatchName}
use Rattle.table_model.proofs.NameOrder.{names_total, exact_names}
use Rattle.catalogue_join.specs.Span.{Rises, among, IsRangeAt}
use Rattle.catalogue_join.specs.declared.run.Run.{Run}
use Rattle.catalogue_join.specs.Run.{name_at, names_from, run_length, names_of, names_listed, names_in, name_place, is_named_run, run_shape}
use Rattle.catalogue_join.specs.RunShape.{HasBounds, bounds_of}
use Rattle.catalogue_join.specs.Held.{IsListOf, IsNameAt, lacks}
use Rattle.catalogue_join.proofs.NameSets.{is_bounded, bounded_from, same_name, same_name_parts, contains-names_in}
use Rattle.catalogue_join.proofs.Spans.{rises_at, covers_within}

-- a name's rank among all names
abbrev pub rank : BatchName → ℕ
rank q = q.origin.0 * 4294967296 + q.number.0

-- names in ascending order of rank from n on
abbrev pub climbs : ℕ → List BatchName → Type 0
climbs n [] = Unit {0}
climbs n (q ∷ qs) = (n ≤ rank q) × (q.origin.0 < 4294967296) × (q.number.0 < 4294967296) × climbs (rank q + 1) qs

climbs_lower : (qs : List BatchName) (n m : ℕ) → climbs n qs → m ≤ n → climbs m qs
climbs_lower [] n m c h = tt
climbs_lower (q ∷ qs) n m c h = (omega arith, c.1, c.2, c.3)

less_by_rank : (q p : BatchName) → q.number.0 < 4294967296 → p.number.0 < 4294967296 → rank q < rank p → name_cmp q p ≡ Less
less_by_rank q p hq hp h = go q.origin.0 q.number.0 p.origin.0 p.number.0 hq hp h
  where
    go : (o n o' n' : ℕ) → n < 4294967296 → n' < 4294967296 → o * 4294967296 + n < o' * 4294967296 + n' → ordering_then (nat_cmp o o') (nat_cmp n n') ≡ Less
    go o n o' n' hn hn' h = grind (arith, nat_tests)

all_above : (q : BatchName) (qs : List BatchName) (n : ℕ) → q.number.0 < 4294967296 → rank q < n → climbs n qs → AllByRecursion (λ p. name_cmp q p ≡ Less) qs
all_above q [] n b h c = tt
all_above q (p ∷ qs) n b h c = (less_by_rank q p b c.2 (omega (arith, c.0)), all_above q qs (rank p + 1) b (omega (arith, c.0)) c.3)

pub ascending_from_climbs : (qs : List BatchName) (n : ℕ) → climbs n qs → IsStrictlySortedBy name_cmp qs
unfolding IsStrictlySortedBy
ascending_from_climbs [] n c = tt
ascending_from_climbs (q ∷ qs) n c = (all_above q qs (rank q + 1) c.2 (omega arith) c.3, ascending_from_climbs qs (rank q + 1) c.3)

names_climb : (origin : Origin) (count k n : ℕ) (rest : List BatchName) → origin.0 < 4294967296 → k + count ≤ 4294967296 → n ≤ origin.0 * 4294967296 + k → climbs (origin.0 * 4294967296 + (k + count)) rest → climbs n (names_from origin k count ++ rest)
names_climb origin zero k n rest o b h c = climbs_lower rest (origin.0 * 4294967296 + (k + 0)) n c (omega arith)
names_climb origin (suc count) k n rest o b h c =
    (h, o, omega arith, names_climb origin count (k + 1) (origin.0 * 4294967296 + k + 1) rest o (omega arith) (omega arith) (climbs_lower rest (origin.0 * 4294967296 + (k + suc count)) (origin.0 * 4294967296 + (k + 1 + count)) c (omega arith)))

-- the names of runs that rise climb
pub listed_climb : (rs : List Run) (n m : ℕ) → Rises run_shape n rs → ((r : Run) → is_named_run r ≡ true → n ≤ run_shape.low r → m ≤ rank r.first) → climbs m (names_listed rs)
listed_climb [] n m r h = tt
listed_climb (s ∷ rs) n m r h =
    let b = bounds_of s r.2 in
    let rest = listed_climb rs (run_shape.high s + 2) (rank s.first + run_length s) r.3 (λ q named low. after s q r.2 named r.1 low) in
    names_climb s.first.origin (run_length s) s.first.number.0 m (names_listed rs) b.origin (omega (arith, r.1)) (h s r.2 r.0)
    (climbs_lower (names_listed rs) (rank s.first + run_length s) (s.first.origin.0 * 4294967296 + (s.first.number.0 + run_length s)) rest (omega arith))
  where
    after : (s q : Run) → is_named_run s ≡ true → is_named_run q ≡ true → run_shape.low s ≤ run_shape.high s → run_shape.high s + 2 ≤ run_shape.low q → rank s.first + run_length s ≤ rank q.first
    after s q n m range gap =
        let a = bounds_of s n in
        let b = bounds_of q m in
        omega arith

-- a climbing list that leaves names out still climbs
pub climbs-filter : (p : BatchName → Bool) (qs : List BatchName) (n : ℕ) → climbs n qs → climbs n (filter p qs)
climbs-filter p [] n c = tt
climbs-filter p (q ∷ qs) n c =
    cond_both (p q) (q ∷ filter p qs) (filter p qs) (climbs n)
    (λ e. (c.0, c.1, c.2, climbs-filter p qs (rank q + 1) c.3))
    (λ e. climbs_lower (filter p qs) (rank q + 1) n (climbs-filter p qs (rank q + 1) c.3) (omega (arith, c.0)))

-- a name that is the same by its order is the same name
same_name_is_same : (q x : BatchName) → same_name q x ≡ true → q ≡ x
same_name_is_same q x e = exact_names q x ((Equal-is (name_cmp q x)).0 e)

kept : (s l r pq px : Bool) → r ≡ (l && pq) → (s ≡ true → pq ≡ px) → px ≡ true → (s || r) ≡ ((s || l) && pq)
kept true l r pq px rest like e = sym (like refl ∙ e)
kept false l r pq px rest like e = rest

left_out : (s l r pq px : Bool) → r ≡ (l && pq) → (s ≡ true → pq ≡ px) → px ≡ false → r ≡ ((s || l) && pq)
left_out true l r pq px rest like e = rest ∙ and_right l pq (like refl ∙ e) ∙ sym (like refl ∙ e)
left_out false l r pq px rest like e = rest

list_any-filter : (p : BatchName → Bool) (qs : List BatchName) (q : BatchName) → list_any (same_name q) (filter p qs) ≡ (list_any (same_name q) qs && p q)
list_any-filter p [] q = refl
list_any-filter p (x ∷ qs) q =
    let like = λ (e : same_name q x ≡ true). ap p (same_name_is_same q x e) in
    cond_both (p x) (x ∷ filter p qs) (filter p qs) (λ (xs : List BatchName). list_any (same_name q) xs ≡ ((same_name q x || list_any (same_name q) qs) && p q))
    (kept (same_name q x) (list_any (same_name q) qs) (list_any (same_name q) (filter p qs)) (p q) (p x) (list_any-filter p qs q) like)
    (left_out (same_name q x) (list_any (same_name q) qs) (list_any (same_name q) (filter p qs)) (p q) (p x) (list_any-filter p qs q) like)

-- each name of a climbing list is higher than the one before, so the first is not among the rest
first_not_again : (q : BatchName) (qs : List BatchName) (n : ℕ) → rank q < n → climbs n qs → list_any (same_name q) qs ≡ false
first_not_again q [] n h c = refl
first_not_again q (x ∷ qs) n h c =
    or_from (same_name q x) (list_any (same_name q) qs)
    (same_name_parts q x ∙ differ q.origin.0 q.number.0 x.origin.0 x.number.0 (omega (arith, c.0)))
    (first_not_again q qs (rank x + 1) (omega (arith, c.0)) c.3)
  where
    differ : (o n o' n' : ℕ) → o * 4294967296 + n < o' * 4294967296 + n' → (eqb o o' && eqb n n') ≡ false
    differ o n o' n' h = grind (arith, nat_tests)

-- the set of a climbing list has as many names as the list
pub len-climbs : (qs : List BatchName) (n : ℕ) → climbs n qs → set.len (set.from_list {R = name_cmp} qs) ≡ length qs
len-climbs [] n c = set.len-empty name_cmp
len-climbs (q ∷ qs) n c =
    set.len-insert names_total (set.from_list qs) q
    ∙ ap (λ b. cond b (set.len (set.from_list {R = name_cmp} qs)) (set.len (set.from_list {R = name_cmp} qs) + 1)) (set.contains-from_list names_total qs q ∙ first_not_again q qs (rank q + 1) (omega arith) c.3)
    ∙ ap (λ n. n + 1) (len-climbs qs (rank q + 1) c.3)
    ∙ omega arith

-- there are fewer names than 2 ^ 64
pub climbs_bound : (qs : List BatchName) (n : ℕ) → climbs n qs → n ≤ 18446744073709551616 → n + length qs ≤ 18446744073709551616
climbs_bound [] n c h = omega arith
climbs_bound (q ∷ qs) n c h = omega (arith, c.0, climbs_bound qs (rank q + 1) c.3 (omega (arith, c.1, c.2)))

-- the names of runs that rise, from the least rank on
pub runs_climb : (rs : List Run) → Rises run_shape 0 rs → climbs 1 (names_listed rs)
runs_climb rs r = listed_climb rs 0 1 r (λ q named _. proper_rank q.first.origin.0 q.first.number.0 (bounds_of q named).proper)
  where
    proper_rank : (o n : ℕ) → (not (eqb o 0) && not (eqb n 0)) ≡ true → 1 ≤ o * 4294967296 + n
    proper_rank o n h = grind (arith, nat_tests)

-- the set of runs that rise has as many names as they list
pub len-names_in : (rs : List Run) → Rises run_shape 0 rs → set.len (names_in rs) ≡ length (names_listed rs)
unfolding names_in
len-names_in rs r = len-climbs (names_listed rs) 1 (runs_climb rs r)

pub listed_bound : (rs : List Run) → Rises run_shape 0 rs → length (names_listed rs) < 18446744073709551616
listed_bound rs r = omega (arith, climbs_bound (names_listed rs) 1 (runs_climb rs r) (omega arith))

-- the names of runs that rise are the list of their set
pub listed : (rs : List Run) → Rises run_shape 0 rs → IsListOf (names_listed rs) (names_in rs)
unfolding names_in
listed rs r = record { ascending = ascending_from_climbs (names_listed rs) 1 (runs_climb rs r); same = refl }

-- the names of runs that a set lacks are the list of the difference
pub missing_listed : (rs : List Run) (other : set.FinSet name_cmp) → Rises run_shape 0 rs → IsListOf (filter (lacks other) (names_listed rs)) (set.difference (names_in rs) other)
unfolding names_in
missing_listed rs other r = record {
  ascending = ascending_from_climbs (filter (lacks other) (names_listed rs)) 1 (climbs-filter (lacks other) (names_listed rs) 1 (runs_climb rs r));
  same = set.same_set names_total exact_names (set.from_list (filter (lacks other) (names_listed rs))) (set.difference (set.from_list (names_listed rs)) other)
      (λ q.
      set.contains-from_list names_total (filter (lacks other) (names_listed rs)) q
      ∙ list_any-filter (lacks other) (names_listed rs) q
      ∙ ap (λ b. b && lacks other q) (sym (set.contains-from_list names_total (names_listed rs) q))
      ∙ sym (set.contains-difference names_total (set.from_list (names_listed rs)) other q));
}

pub names_listed-append : (rs qs : List Run) → names_listed (rs ++ qs) ≡ names_listed rs ++ names_listed qs
names_listed-append [] qs = refl
names_listed-append (r ∷ rs) qs = ap (λ (xs : List BatchName). names_of r ++ xs) (names_listed-append rs qs) ∙ sym (append_assoc (names_of r) (names_listed rs) (names_listed qs))

-- the names of one more run
pub listed_more : (rs : List Run) (i : ℕ) (d : Run) → i < length rs → names_listed (take (i + 1) rs) ≡ names_listed (take i rs) ++ names_of (get_or rs i d)
listed_more rs i d h =
    ap names_listed (take_more rs i d h) ∙ names_listed-append (take i rs) (get_or rs i d ∷ [])
    ∙ ap (λ (xs : List BatchName). names_listed (take i rs) ++ xs) (append-nil (names_of (get_or rs i d)))

-- all names, by what stands before a run, in it and behind it
pub listed_parts : (rs : List Run) (i : ℕ) (d : Run) → i < length rs → names_listed rs ≡ names_listed (take i rs) ++ (names_of (get_or rs i d) ++ names_listed (drop (i + 1) rs))
listed_parts rs i d h =
    ap names_listed (sym (take-append-drop i rs) ∙ ap (λ (xs : List Run). take i rs ++ xs) (drop_more rs i d h))
    ∙ names_listed-append (take i rs) (get_or rs i d ∷ drop (i + 1) rs)

pub length-names_from : (origin : Origin) (count n : ℕ) → length (names_from origin n count) ≡ count
length-names_from origin zero n = refl
length-names_from origin (suc count) n = omega (arith, length-names_from origin count (n + 1))

-- so many names stand before a run, and no more than there are with it
pub listed_count : (rs : List Run) (i : ℕ) (d : Run) → i < length rs → length (names_listed (take (i + 1) rs)) ≡ length (names_listed (take i rs)) + run_length (get_or rs i d)
listed_count rs i d h =
    ap length (listed_more rs i d h) ∙ length-append (names_listed (take i rs)) (names_of (get_or rs i d))
    ∙ ap (λ n. length (names_listed (take i rs)) + n) (length-names_from (get_or rs i d).first.origin (run_length (get_or rs i d)) (get_or rs i d).first.number.0)

pub listed_count_bound : (rs : List Run) (i : ℕ) (d : Run) → Rises run_shape 0 rs → i < length rs → length (names_listed (take i rs)) + run_length (get_or rs i d) < 18446744073709551616
listed_count_bound rs i d r h =
    let all = ap length (listed_parts rs i d h) ∙ length-append (names_listed (take i rs)) (names_of (get_or rs i d) ++ names_listed (drop (i + 1) rs)) in
    let rest = length-append (names_of (get_or rs i d)) (names_listed (drop (i + 1) rs)) in
    let own = length-names_from (get_or rs i d).first.origin (run_length (get_or rs i d)) (get_or rs i d).first.number.0 in
    omega (arith, listed_bound rs r)

-- a run of the list is not empty, and its numbers are within their bounds
pub run_ordered : (rs : List Run) (i : ℕ) (d : Run) → Rises run_shape 0 rs → i < length rs → (get_or rs i d).first.number.0 ≤ (get_or rs i d).last.0
run_ordered rs i d r h = let at = rises_at run_shape rs 0 i d r h in omega (arith, at.is_range)

pub run_bounded : (rs : List Run) (i : ℕ) (d : Run) → Rises run_shape 0 rs → i < length rs → HasBounds (get_or rs i d)
run_bounded rs i d r h = let at = rises_at run_shape rs 0 i d r h in bounds_of (get_or rs i d) at.named

slice_get-append_add : (xs ys : List BatchName) (k : ℕ) → slice_get (xs ++ ys) (length xs + k) ≡ slice_get ys k
slice_get-append_add [] ys k = ap (slice_get ys) (omega arith)
slice_get-append_add (x ∷ xs) ys k =
    ap (slice_get ((x ∷ xs) ++ ys)) (shift (length xs)) ∙ slice_get-append_add xs ys k
  where
    shift : (n : ℕ) → suc n + k ≡ suc (n + k)
    shift n = omega arith

slice_get-names_from : (origin : Origin) (rest : List BatchName) (count n k : ℕ) → k < count → slice_get (names_from origin n count ++ rest) k ≡ Some (name_at origin (n + k))
slice_get-names_from origin rest zero n k h = absurd (omega arith)
slice_get-names_from origin rest (suc count) n zero h = ap (λ x. Some (name_at origin x)) (omega arith)
slice_get-names_from origin rest (suc count) n (suc k) h = slice_get-names_from origin rest count (n + 1) k (omega arith) ∙ ap (λ x. Some (name_at origin x)) (omega arith)

-- the name with an index is in the run where the count of names passes that index
pub name_is_at : (rs : List Run) (i k index : ℕ) (d : Run) → Rises run_shape 0 rs → i < length rs → k < run_length (get_or rs i d) → index ≡ length (names_listed (take i rs)) + k
    → IsNameAt (names_in rs) index (name_at (get_or rs i d).first.origin ((get_or rs i d).first.number.0 + k))
name_is_at rs i k index d r h less e =
    let s = get_or rs i d in
    let behind = names_listed (drop (i + 1) rs) in
    record {
      names = names_listed rs;
      listed = listed rs r;
      here =
          ap (λ (xs : List BatchName). slice_get xs index) (listed_parts rs i d h)
          ∙ ap (slice_get (names_listed (take i rs) ++ (names_of s ++ behind))) e
          ∙ slice_get-append_add (names_listed (take i rs)) (names_of s ++ behind) k
          ∙ slice_get-names_from s.first.origin behind (run_length s) s.first.number.0 k less;
    }

-- names that a set holds are left out
pub skip_held : (held : set.FinSet name_cmp) (origin : Origin) (count n m rest : ℕ) → n ≤ m → rest ≡ n + count - m → ((k : ℕ) → n ≤ k → k < m → lacks held (name_at origin k) ≡ false) → filter (lacks held) (names_from origin n count) ≡ filter (lacks held) (names_from origin m rest)
skip_held held origin zero n m rest order e has = let none : 0 ≡ rest = omega arith in ap (λ x. filter (lacks held) (names_from origin m x)) none
skip_held held origin (suc count) n m rest order e has =
    elim (cases_lt n m) [
      | inl less ↦
          cond-false (lacks held (name_at origin n)) (name_at origin n ∷ filter (lacks held) (names_from origin (n + 1) count)) (filter (lacks held) (names_from origin (n + 1) count)) (has n (omega arith) less)
          ∙ skip_held held origin count (n + 1) m rest (omega arith) (omega arith) (λ k from to. has k (omega arith) to)
      | inr same ↦
          let at : n ≡ m = omega arith in
          let all : suc count ≡ rest = omega arith in
          ap (λ x. filter (lacks held) (names_from origin x (suc count))) at ∙ ap (λ x. filter (lacks held) (names_from origin m x)) all
    ]

-- a name that a set lacks is taken
pub take_lacked : (held : set.FinSet name_cmp) (origin : Origin) (n count rest : ℕ) → count ≡ rest + 1 → lacks held (name_at origin n) ≡ true → filter (lacks held) (names_from origin n count) ≡ name_at origin n ∷ filter (lacks held) (names_from origin (n + 1) rest)
take_lacked held origin n count rest e lacked =
    let more : count ≡ suc rest = omega arith in
    ap (λ x. filter (lacks held) (names_from origin n x)) more
    ∙ cond-true (lacks held (name_at origin n)) (name_at origin n ∷ filter (lacks held) (names_from origin (n + 1) rest)) (filter (lacks held) (names_from origin (n + 1) rest)) lacked

-- where a search from a number found a run, all numbers from there to the run's last are held
pub found_holds : (rs : List Run) (origin : Origin) (n : ℕ) (s : Run) → Rises run_shape 0 rs → origin.0 < 4294967296 → IsRangeAt run_shape rs (name_place origin n) s → n < 4294967296
    → (n ≤ s.last.0) × ((k : ℕ) → n ≤ k → k < s.last.0 + 1 → lacks (names_in rs) (name_at origin k) ≡ false)
found_holds rs origin n s r small h fits =
    let b = bounds_of s h.named in
    let both = and_parts (leb (run_shape.low s) (name_place origin n)) (leb (name_place origin n) (run_shape.high s)) h.has in
    let from = leb-true (run_shape.low s) (name_place origin n) both.0 in
    let to = leb-true (name_place origin n) (run_shape.high s) both.1 in
    let same : s.first.origin.0 ≡ origin.0 = omega arith in (
      omega arith,
      λ k ge lt.
          ap not (contains-names_in rs (name_at origin k) r
          ∙ ap (λ b. b && among run_shape rs (name_place origin k)) (bounded_from (name_at origin k) small (omega arith))
          ∙ h.inside (name_place origin k) (covers_within run_shape s (name_place origin k) (omega arith) (omega arith))),
    )

pub missed_lacks : (rs : List Run) (q : BatchName) → Rises run_shape 0 rs → among run_shape rs (name_place q.origin q.number.0) ≡ false → lacks (names_in rs) q ≡ true
missed_lacks rs q r none = ap not (contains-names_in rs q r ∙ ap (λ b. is_bounded q && b) none ∙ and-false (is_bounded q))

-- the run that a read past the end of a list would give
abbrev pub no_run : Run
no_run = record { first = record { origin = record { 0 = 0 }; number = record { 0 = 0 } }; last = record { 0 = 0 } }
