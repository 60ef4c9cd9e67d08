-- A name is in the set of a list of runs exactly where its place is among theirs.
use Rattle.std.proofs.Common.{◌≡◌, ℕ, zero, suc, ◌+◌, ◌-◌, ◌*◌, ◌<◌, Bool, true, false, Option, None, Some, is_some, MatchOption, ◌&&◌, ◌||◌, eqb, ltb, leb, List, [], ◌∷◌, refl, sym, ap, ◌∙◌, arith}
use Rattle.std.proofs.Math.Bool.{and-false, or_comm}
use Rattle.std.proofs.lemmas.Bool.{and_parts, and_from, lt-ltb, leb-true}
use Rattle.std.proofs.lemmas.Bool.Decides.{nat_tests}
use Rattle.std.proofs.lemmas.List.Folds.{list_any-append}
use Rattle.std.specs.List.{list_any}
use Rattle.std.specs.Ordering.{eq_by_cmp}
use Rattle.std.specs.FinSet as set
use Rattle.table_model.specs.Name.{name_cmp}
use Rattle.table_model.specs.declared.names.Origin.{Origin}
use Rattle.table_model.specs.declared.names.BatchName.{BatchName}
use Rattle.table_model.proofs.NameOrder.{names_total, exact_names}
use Rattle.catalogue_join.specs.Span.{among, covers, Rises, IsRangeAt}
use Rattle.catalogue_join.specs.declared.run.Run.{Run}
use Rattle.catalogue_join.specs.Run.{name_at, names_from, run_length, names_of, names_listed, names_in, name_place, is_named_run, run_shape}
use Rattle.catalogue_join.specs.RunShape.{bounds_of}
use Rattle.catalogue_join.specs.Held.{IsFront}
use Rattle.catalogue_join.proofs.RowSets.{and_over_or}
use Rattle.catalogue_join.proofs.Spans.{covers_within}

-- names of batches that are the same by their order
abbrev pub same_name : BatchName → BatchName → Bool
same_name = eq_by_cmp name_cmp

same_name_is : (q : BatchName) (origin : Origin) (n : ℕ) → same_name q (name_at origin n) ≡ (eqb origin.0 q.origin.0 && (leb n q.number.0 && leb q.number.0 n))
same_name_is q origin n = grind (arith, nat_tests)

-- one more name at the front of a run of names
one_more : (o o' n q count : ℕ) → ((eqb o o' && (leb n q && leb q n)) || (eqb o o' && (leb (n + 1) q && ltb q (n + 1 + count)))) ≡ (eqb o o' && (leb n q && ltb q (n + suc count)))
one_more o o' n q count = grind (arith, nat_tests)

pub names_from_any : (q : BatchName) (origin : Origin) (count n : ℕ) → list_any (same_name q) (names_from origin n count) ≡ (eqb origin.0 q.origin.0 && (leb n q.number.0 && ltb q.number.0 (n + count)))
names_from_any q origin zero n = grind (arith, nat_tests)
names_from_any q origin (suc count) n =
    ap (λ b. b || list_any (same_name q) (names_from origin (n + 1) count)) (same_name_is q origin n)
    ∙ ap (λ b. (eqb origin.0 q.origin.0 && (leb n q.number.0 && leb q.number.0 n)) || b) (names_from_any q origin count (n + 1))
    ∙ one_more origin.0 q.origin.0 n q.number.0 count

-- the name's numbers are within their bounds
abbrev pub is_bounded : BatchName → Bool
is_bounded q = ltb q.origin.0 4294967296 && ltb q.number.0 4294967296

-- the name's place on the line
abbrev pub spot : BatchName → ℕ
spot q = name_place q.origin q.number.0

names_of_any : (r : Run) (q : BatchName) → is_named_run r ≡ true → list_any (same_name q) (names_of r) ≡ (is_bounded q && covers run_shape r (spot q))
names_of_any r q named =
    let b = bounds_of r named in
    names_from_any q r.first.origin (run_length r) r.first.number.0
    ∙ go r.first.origin.0 r.first.number.0 r.last.0 q.origin.0 q.number.0 b.origin b.number b.last
  where
    go : (o f l o' x : ℕ) → o < 4294967296 → f < 4294967296 → l < 4294967296 → (eqb o o' && (leb f x && ltb x (f + (l + 1 - f)))) ≡ ((ltb o' 4294967296 && ltb x 4294967296) && (leb (o * 8589934592 + f) (o' * 8589934592 + x) && leb (o' * 8589934592 + x) (o * 8589934592 + l)))
    go o f l o' x ho hf hl = grind (arith, nat_tests)

names_listed_any : (rs : List Run) (n : ℕ) (q : BatchName) → Rises run_shape n rs → list_any (same_name q) (names_listed rs) ≡ (is_bounded q && among run_shape rs (spot q))
names_listed_any [] n q r = sym (and-false (is_bounded q))
names_listed_any (s ∷ rs) n q r =
    list_any-append (same_name q) (names_of s) (names_listed rs)
    ∙ ap (λ b. b || list_any (same_name q) (names_listed rs)) (names_of_any s q r.2)
    ∙ ap (λ b. (is_bounded q && covers run_shape s (spot q)) || b) (names_listed_any rs (run_shape.high s + 2) q r.3)
    ∙ and_over_or (is_bounded q) (covers run_shape s (spot q)) (among run_shape rs (spot q))

-- a name is in the set exactly where its place is among those of the runs
pub contains-names_in : (rs : List Run) (q : BatchName) → Rises run_shape 0 rs → set.contains (names_in rs) q ≡ (is_bounded q && among run_shape rs (spot q))
unfolding names_in
contains-names_in rs q r = set.contains-from_list names_total (names_listed rs) q ∙ names_listed_any rs 0 q r

pub names_in-nil : names_in [] ≡ set.empty
unfolding names_in
names_in-nil = refl

pub bounded_from : (q : BatchName) → q.origin.0 < 4294967296 → q.number.0 < 4294967296 → is_bounded q ≡ true
bounded_from q o n = and_from (ltb q.origin.0 4294967296) (ltb q.number.0 4294967296) (lt-ltb q.origin.0 4294967296 o) (lt-ltb q.number.0 4294967296 n)

-- a run of one name has its place alone
one_place : (o n o' n' : ℕ) → o < 4294967296 → n < 4294967296 → ((ltb o' 4294967296 && ltb n' 4294967296) && (leb (o * 8589934592 + n) (o' * 8589934592 + n') && leb (o' * 8589934592 + n') (o * 8589934592 + n))) ≡ (eqb o' o && eqb n' n)
one_place o n o' n' ho hn = grind (arith, nat_tests)

pub same_name_parts : (q p : BatchName) → same_name q p ≡ (eqb q.origin.0 p.origin.0 && eqb q.number.0 p.number.0)
same_name_parts q p = grind (arith, nat_tests)

-- the set after a name came in
pub names_in-put : (rs new : List Run) (name : BatchName) → Rises run_shape 0 rs → Rises run_shape 0 new → name.origin.0 < 4294967296 → name.number.0 < 4294967296
    → ((p : ℕ) → among run_shape new p ≡ (among run_shape rs p || covers run_shape (record { first = name; last = name.number }) p)) → names_in new ≡ set.insert (names_in rs) name
names_in-put rs new name rising risen origin number places =
    set.same_set names_total exact_names (names_in new) (set.insert (names_in rs) name)
    (λ q.
    let one : Run = record { first = name; last = name.number } in
    contains-names_in new q risen
    ∙ ap (λ b. is_bounded q && b) (places (spot q))
    ∙ sym (and_over_or (is_bounded q) (among run_shape rs (spot q)) (covers run_shape one (spot q)))
    ∙ ap (λ b. b || (is_bounded q && covers run_shape one (spot q))) (sym (contains-names_in rs q rising))
    ∙ ap (λ b. set.contains (names_in rs) q || b) (one_place name.origin.0 name.number.0 q.origin.0 q.number.0 origin number ∙ sym (same_name_parts q name))
    ∙ or_comm (set.contains (names_in rs) q) (same_name q name)
    ∙ sym (set.contains-insert names_total (names_in rs) name q))

-- the set of two lists of runs that were joined
pub names_in-joined : (rs ts new : List Run) → Rises run_shape 0 rs → Rises run_shape 0 ts → Rises run_shape 0 new → ((p : ℕ) → among run_shape new p ≡ (among run_shape rs p || among run_shape ts p)) → names_in new ≡ set.union (names_in rs) (names_in ts)
names_in-joined rs ts new rising others risen places =
    set.same_set names_total exact_names (names_in new) (set.union (names_in rs) (names_in ts))
    (λ q.
    contains-names_in new q risen
    ∙ ap (λ b. is_bounded q && b) (places (spot q))
    ∙ sym (and_over_or (is_bounded q) (among run_shape rs (spot q)) (among run_shape ts (spot q)))
    ∙ ap (λ b. b || (is_bounded q && among run_shape ts (spot q))) (sym (contains-names_in rs q rising))
    ∙ ap (λ b. set.contains (names_in rs) q || b) (sym (contains-names_in ts q others))
    ∙ sym (set.contains-union names_total (names_in rs) (names_in ts) q))

-- a search for a name's place tells whether the name is in the set
pub found_is : (rs : List Run) (q : BatchName) (found : Option Run) → Rises run_shape 0 rs → is_bounded q ≡ true → MatchOption found (among run_shape rs (spot q) ≡ false) (IsRangeAt run_shape rs (spot q)) → is_some found ≡ set.contains (names_in rs) q
found_is rs q None r bounded lacks = sym (contains-names_in rs q r ∙ ap (λ b. b && among run_shape rs (spot q)) bounded ∙ lacks)
found_is rs q (Some s) r bounded h = sym (contains-names_in rs q r ∙ ap (λ b. b && among run_shape rs (spot q)) bounded ∙ h.inside (spot q) h.has)

-- the front of an origin is where the run of its number 1 ends
pub front_found : (rs : List Run) (origin : Origin) (s : Run) → Rises run_shape 0 rs → origin.0 < 4294967296 → IsRangeAt run_shape rs (name_place origin 1) s → IsFront (names_in rs) origin s.last.0
front_found rs origin s r small h =
    let b = bounds_of s h.named in
    let both = and_parts (leb (run_shape.low s) (name_place origin 1)) (leb (name_place origin 1) (run_shape.high s)) h.has in
    let from = leb-true (run_shape.low s) (name_place origin 1) both.0 in
    let to = leb-true (name_place origin 1) (run_shape.high s) both.1 in
    let same : s.first.origin.0 ≡ origin.0 = omega arith in
    record {
      all_before = λ n one le.
          contains-names_in rs (name_at origin n) r
          ∙ ap (λ b. b && among run_shape rs (name_place origin n)) (bounded_from (name_at origin n) small (omega arith))
          ∙ h.inside (name_place origin n) (covers_within run_shape s (name_place origin n) (omega arith) (omega arith));
      next_lacks =
          contains-names_in rs (name_at origin (s.last.0 + 1)) r
          ∙ ap (λ b. is_bounded (name_at origin (s.last.0 + 1)) && b) (ap (among run_shape rs) (next same) ∙ h.beyond)
          ∙ and-false (is_bounded (name_at origin (s.last.0 + 1)));
    }
  where
    next : s.first.origin.0 ≡ origin.0 → name_place origin (s.last.0 + 1) ≡ run_shape.high s + 1
    next same = omega arith

pub front_missed : (rs : List Run) (origin : Origin) → Rises run_shape 0 rs → among run_shape rs (name_place origin 1) ≡ false → IsFront (names_in rs) origin 0
front_missed rs origin r lacks = record {
  all_before = λ n one le. absurd (omega arith);
  next_lacks = contains-names_in rs (name_at origin 1) r ∙ ap (λ b. is_bounded (name_at origin 1) && b) lacks ∙ and-false (is_bounded (name_at origin 1));
}
