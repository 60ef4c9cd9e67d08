-- The live rows of a join of states that are apart are those of both, in another order.
use Rattle.std.specs.Prelude.{◌≡◌, ℕ, suc, Bool, true, false, cond, not, ◌&&◌, ◌||◌, T, List, [], ◌∷◌, ◌++◌, filter, Option, Some, None}
use Rattle.std.proofs.Common.{refl, sym, ap, subst, ◌∙◌}
use Rattle.std.specs.List.{list_any, flat_map}
use Rattle.std.specs.Ordering.{eq_by_cmp, is_eq}
use Rattle.std.specs.FinMap as map
use Rattle.std.specs.FinMap.Entries.{below_all, is_sorted}
use Rattle.std.specs.FinSet as set
use Rattle.std.proofs.lemmas.Bool.{and_parts}
use Rattle.std.proofs.lemmas.List.Elements.{filter-append}
use Rattle.std.proofs.lemmas.List.Folds.{list_any-append}
use Rattle.table_model.specs.Name.{name_cmp, row_name_cmp}
use Rattle.table_model.specs.State.{State, Batch, Cells, same_rows, union_of, join, named_from, live_rows}
use Rattle.table_model.specs.declared.names.BatchName.{BatchName}
use Rattle.table_model.specs.declared.names.RowName.{RowName}
use Rattle.table_model.proofs.Alike.{Rearranged-filter}
use Rattle.table_model.proofs.Joins.{or_else, get-union}
use Rattle.table_model.proofs.NameOrder.{row_names_total}
use Rattle.table_model.proofs.Operations.{same_name, itself}
use Rattle.table_model.proofs.Parts as members
use Rattle.table_model.proofs.Passed.{first_of_both, second_of_both, less_is}
use Rattle.table_model.proofs.Rearranged.{Rearranged, none, kept, swapped, both, unmoved}
use Rattle.table_model.proofs.SameMembers.{rearranged_members}
use Rattle.table_model.proofs.SameRows.{one_batch, itself_batch}
use Rattle.partial_answers.specs.PartialAnswerLaws.{Apart}

-- ---- lists in another order
module _ {X : Type 0} where
  moved_in : (x : X) (b r : List X) → Rearranged (x ∷ (b ++ r)) (b ++ (x ∷ r))
  moved_in x [] r = unmoved (x ∷ r)
  moved_in x (y ∷ b) r = both _ _ _ (swapped x y (b ++ r)) (kept y _ _ (moved_in x b r))

  exchanged : (a b r : List X) → Rearranged (a ++ (b ++ r)) (b ++ (a ++ r))
  exchanged [] b r = unmoved (b ++ r)
  exchanged (x ∷ a) b r = both _ _ _ (kept x _ _ (exchanged a b r)) (moved_in x b (a ++ r))

  behind : (l xs ys : List X) → Rearranged xs ys → Rearranged (l ++ xs) (l ++ ys)
  behind [] xs ys h = h
  behind (x ∷ l) xs ys h = kept x _ _ (behind l xs ys h)

Rearranged-flat_map : {X Y : Type 0} (f : X → List Y) (xs ys : List X) → Rearranged xs ys → Rearranged (flat_map f xs) (flat_map f ys)
Rearranged-flat_map f _ _ none = none
Rearranged-flat_map f _ _ (kept x xs ys h) = behind (f x) _ _ (Rearranged-flat_map f xs ys h)
Rearranged-flat_map f _ _ (swapped x y zs) = exchanged (f x) (f y) (flat_map f zs)
Rearranged-flat_map f _ _ (both xs ys zs g h) = both _ _ _ (Rearranged-flat_map f xs ys g) (Rearranged-flat_map f ys zs h)

-- ---- entries of batches
abbrev pub Entry : Type 0
Entry = BatchName × Batch

abbrev Sorted : List Entry → Type 0
Sorted es = T (is_sorted name_cmp es)

-- it holds of each entry
abbrev pub Each : (BatchName → Batch → Type 0) → List Entry → Type 0
Each P [] = Unit {0}
Each P (e ∷ es) = P e.0 e.1 × Each P es

find-below : (q : BatchName) (es : List Entry) → T (below_all name_cmp q es) → map.find name_cmp q es ≡ None
find-below q [] h = refl
find-below q (e ∷ es) h = ap (λ r. cond (is_eq r) (Some e.1) (map.find name_cmp q es)) (less_is _ (first_of_both _ _ h)) ∙ find-below q es (second_of_both _ _ h)

-- what is found behind the first entry is found
found_later : (e : Entry) (es : List Entry) (q : BatchName) (x : Batch) → Sorted (e ∷ es) → map.find name_cmp q es ≡ Some x → map.find name_cmp q (e ∷ es) ≡ Some x
found_later e es q x h is =
    elim (eq_by_cmp name_cmp q e.0) as (λ b. eq_by_cmp name_cmp q e.0 ≡ b → cond b (Some e.1) (map.find name_cmp q es) ≡ Some x) [
      | true ↦ λ tied.
          let none_there : map.find name_cmp q es ≡ None = find-below q es (subst (λ (n : BatchName). T (below_all name_cmp n es)) (sym (same_name q e.0 tied)) (first_of_both _ _ h)) in
          let never : None ≡ Some x = sym none_there ∙ is in cc
      | false ↦ λ _. is
    ] refl

pub each_found : (P : BatchName → Batch → Type 0) (es : List Entry) → Sorted es → ((q : BatchName) (x : Batch) → map.find name_cmp q es ≡ Some x → P q x) → Each P es
each_found P [] h f = tt
each_found P (e ∷ es) h f =
    (f e.0 e.1 (ap (λ b. cond b (Some e.1) (map.find name_cmp e.0 es)) (itself e.0)), each_found P es (second_of_both _ _ h) (λ q x is. f q x (found_later e es q x h is)))

-- whether two entries are the same
abbrev same : Entry → Entry → Bool
same e f = eq_by_cmp name_cmp e.0 f.0 && same_rows e.1 f.1

same_one : (e f : Entry) → same e f ≡ true → e ≡ f
same_one e f h =
    let components = and_parts (eq_by_cmp name_cmp e.0 f.0) (same_rows e.1 f.1) h in
    let name = same_name e.0 f.0 components.0 in
    let rows = one_batch e.1 f.1 components.1 in
    λ i. (name i, rows i)

same_itself : (e : Entry) → same e e ≡ true
same_itself e = (λ i. itself e.0 i && same_rows e.1 e.1) ∙ itself_batch e.1

none_below : (k : Entry) (es : List Entry) → T (below_all name_cmp k.0 es) → list_any (same k) es ≡ false
none_below k [] h = refl
none_below k (e ∷ es) h = ap (λ o. (is_eq o && same_rows k.1 e.1) || list_any (same k) es) (less_is _ (first_of_both _ _ h)) ∙ none_below k es (second_of_both _ _ h)

sorted_apart : (es : List Entry) → Sorted es → members.AreApart same es
sorted_apart [] h = tt
sorted_apart (e ∷ es) h = (none_below e es (first_of_both _ _ h), sorted_apart es (second_of_both _ _ h))

-- whether the batch that is found is the entry's
abbrev is_at : Entry → Option Batch → Bool
is_at k None = false
is_at k (Some rows) = same_rows k.1 rows

or-false : (b : Bool) → (b || false) ≡ b
or-false true = refl
or-false false = refl

member : (k : Entry) (es : List Entry) → Sorted es → list_any (same k) es ≡ is_at k (map.find name_cmp k.0 es)
member k [] h = refl
member k (e ∷ es) h =
    elim (eq_by_cmp name_cmp k.0 e.0) as (λ b. eq_by_cmp name_cmp k.0 e.0 ≡ b → ((b && same_rows k.1 e.1) || list_any (same k) es) ≡ is_at k (cond b (Some e.1) (map.find name_cmp k.0 es))) [
      | true ↦ λ tied.
          ap (λ b. same_rows k.1 e.1 || b) (none_below k es (subst (λ (n : BatchName). T (below_all name_cmp n es)) (sym (same_name k.0 e.0 tied)) (first_of_both _ _ h)))
          ∙ or-false (same_rows k.1 e.1)
      | false ↦ λ _. member k es (second_of_both _ _ h)
    ] refl

-- entries of which none is among others stay apart before them
apart_both : (es fs : List Entry) → members.AreApart same es → members.AreApart same fs → Each (λ name rows. list_any (same (name, rows)) fs ≡ false) es → members.AreApart same (es ++ fs)
apart_both [] fs f g h = g
apart_both (e ∷ es) fs f g h =
    (list_any-append (same e) es fs ∙ (λ i. f.0 i || list_any (same e) fs) ∙ h.0, apart_both es fs f.1 g h.1)

either_at : (k : Entry) (a b : Option Batch) → ((x y : Batch) → a ≡ Some x → b ≡ Some y → ⊥) → is_at k (or_else a b) ≡ (is_at k a || is_at k b)
either_at k None b h = refl
either_at k (Some x) None h = sym (or-false (same_rows k.1 x))
either_at k (Some x) (Some y) h = absurd (h x y refl refl)

missing : (o : Option Batch) → ((y : Batch) → o ≡ Some y → ⊥) → o ≡ None
missing None h = refl
missing (Some y) h = absurd (h y refl)

module _ (s t : State) (apart : Apart s t) where
  abbrev es : List Entry
  es = map.entries s.batches

  abbrev fs : List Entry
  fs = map.entries t.batches

  not_there : Each (λ name rows. list_any (same (name, rows)) fs ≡ false) es
  not_there = each_found (λ name rows. list_any (same (name, rows)) fs ≡ false) es (map.entries_sorted s.batches) (λ q x is.
      member (q, x) fs (map.entries_sorted t.batches)
      ∙ ap (is_at (q, x)) (sym (map.get-entries t.batches q) ∙ missing (map.get t.batches q) (λ y at. apart.names q x y (map.get-entries s.batches q ∙ is) at)))

  entries-join : Rearranged (map.entries (union_of s.batches t.batches)) (es ++ fs)
  entries-join =
      let u = union_of s.batches t.batches in
      rearranged_members same same_one same_itself (map.entries u) (es ++ fs) (sorted_apart (map.entries u) (map.entries_sorted u))
      (apart_both es fs (sorted_apart es (map.entries_sorted s.batches)) (sorted_apart fs (map.entries_sorted t.batches)) not_there)
      (λ k.
      member k (map.entries u) (map.entries_sorted u)
      ∙ ap (is_at k) (sym (map.get-entries u k.0) ∙ get-union s.batches t.batches k.0)
      ∙ either_at k (map.get s.batches k.0) (map.get t.batches k.0) (λ x y a b. apart.names k.0 x y a b)
      ∙ sym (list_any-append (same k) es fs ∙ (λ i. (member k es (map.entries_sorted s.batches) ∙ ap (is_at k) (sym (map.get-entries s.batches k.0))) i || (member k fs (map.entries_sorted t.batches) ∙ ap (is_at k) (sym (map.get-entries t.batches k.0))) i)))

-- ---- live rows
abbrev pub Rows : Type 0
Rows = set.FinSet row_name_cmp

abbrev pub Named : Type 0
Named = RowName × Cells

abbrev alive : Rows → Named → Bool
alive deleted r = not (set.contains deleted r.0)

abbrev rows_at : Entry → List Named
rows_at e = named_from e.0 0 e.1

flat_map-append : (xs ys : List Entry) → flat_map rows_at (xs ++ ys) ≡ flat_map rows_at xs ++ flat_map rows_at ys
flat_map-append [] ys = refl
flat_map-append (x ∷ xs) ys = ap (λ (l : List Named). rows_at x ++ l) (flat_map-append xs ys) ∙ sym (associates (rows_at x) (flat_map rows_at xs) (flat_map rows_at ys))
  where
    associates : (a b c : List Named) → (a ++ b) ++ c ≡ a ++ (b ++ c)
    associates [] b c = refl
    associates (z ∷ a) b c = ap (λ (l : List Named). z ∷ l) (associates a b c)

-- the same of the rows of a batch are deleted
abbrev SameOf : Rows → Rows → BatchName → Batch → Type 0
SameOf d f name rows = (n : ℕ) → set.contains d (record { batch = name; ordinal = n }) ≡ set.contains f (record { batch = name; ordinal = n })

alive-batch : (d f : Rows) (name : BatchName) (rows all : Batch) (n : ℕ) → SameOf d f name all → filter (alive d) (named_from name n rows) ≡ filter (alive f) (named_from name n rows)
alive-batch d f name [] all n h = refl
alive-batch d f name (row ∷ rows) all n h =
    let r : Named = (record { batch = name; ordinal = n }, row) in
    let rest = alive-batch d f name rows all (suc n) h in
    λ i. cond (not (h n i)) (r ∷ rest i) (rest i)

alive-batches : (d f : Rows) (bs : List Entry) → Each (SameOf d f) bs → filter (alive d) (flat_map rows_at bs) ≡ filter (alive f) (flat_map rows_at bs)
alive-batches d f [] h = refl
alive-batches d f (e ∷ bs) h =
    filter-append (alive d) (rows_at e) (flat_map rows_at bs)
    ∙ (λ i. alive-batch d f e.0 e.1 e.1 0 h.0 i ++ alive-batches d f bs h.1 i)
    ∙ sym (filter-append (alive f) (rows_at e) (flat_map rows_at bs))

first_absorbs : (a b : Bool) → (b ≡ true → a ≡ true) → (a || b) ≡ a
first_absorbs true b h = refl
first_absorbs false true h = sym (h refl)
first_absorbs false false h = refl

second_absorbs : (a b : Bool) → (a ≡ true → b ≡ true) → (a || b) ≡ b
second_absorbs true b h = sym (h refl)
second_absorbs false b h = refl

pub live-join : (s t : State) → Apart s t → Rearranged (live_rows (join s t)) (live_rows s ++ live_rows t)
unfolding live_rows
live-join s t apart =
    let u : Rows = set.union s.deleted t.deleted in
    let a : List Entry = map.entries s.batches in
    let b : List Entry = map.entries t.batches in
    let ours : Each (SameOf u s.deleted) a = each_found (SameOf u s.deleted) a (map.entries_sorted s.batches) (λ q x is n.
    set.contains-union row_names_total s.deleted t.deleted (record { batch = q; ordinal = n })
    ∙ first_absorbs _ _ (apart.first q x n (map.get-entries s.batches q ∙ is))) in
    let theirs : Each (SameOf u t.deleted) b = each_found (SameOf u t.deleted) b (map.entries_sorted t.batches) (λ q x is n.
    set.contains-union row_names_total s.deleted t.deleted (record { batch = q; ordinal = n })
    ∙ second_absorbs _ _ (apart.second q x n (map.get-entries t.batches q ∙ is))) in
    let rows : filter (alive u) (flat_map rows_at (a ++ b)) ≡ filter (alive s.deleted) (flat_map rows_at a) ++ filter (alive t.deleted) (flat_map rows_at b) =
    ap (filter (alive u)) (flat_map-append a b)
    ∙ filter-append (alive u) (flat_map rows_at a) (flat_map rows_at b)
    ∙ (λ i. alive-batches u s.deleted a ours i ++ alive-batches u t.deleted b theirs i) in
    subst (λ (l : List Named). Rearranged (live_rows (join s t)) l) rows
    (Rearranged-filter (alive u) _ _ (Rearranged-flat_map rows_at _ _ (entries-join s t apart)))
