-- What was read of a container makes an offer.
use Rattle.std.proofs.Common.{◌≡◌, ℕ, suc, ◌+◌, ◌-◌, ◌<◌, ◌≤◌, Bool, true, false, ◌&&◌, ◌||◌, eqb, leb, ltb, All, List, [], ◌∷◌, ◌++◌, map, length, get_or, take, codes, Ok, refl, sym, ap, ◌∙◌, append_assoc, arith}
use Rattle.std.specs.List.{AllByRecursion, list_any}
use Rattle.std.specs.Ordering.{nat_cmp, ordering_then, is_lt, eq_by_cmp}
use Rattle.std.specs.FinMap as finite
use Rattle.std.specs.FinMap.Entries.{below_all, is_sorted}
use Rattle.std.specs.FinSet as set
use Rattle.std.proofs.Math.Seq.{get_or-append_seam}
use Rattle.std.proofs.lemmas.Bool.{and_parts, and_from, leb-true}
use Rattle.std.proofs.lemmas.Bool.Decides.{nat_tests}
use Rattle.std.proofs.lemmas.List.{map-append, length-append, length-map, take_more, append-nil}
use Rattle.std.proofs.lemmas.List.Elements.{All-from_recursion}
use Rattle.std.proofs.lemmas.List.Folds.{list_any-append}
use Rattle.std.specs.Bool.{passes}
use Rattle.table_model.specs.Name.{name_cmp, row_name_cmp}
use Rattle.table_model.specs.Table.{Table}
use Rattle.table_model.specs.declared.names.BatchName.{BatchName}
use Rattle.table_model.specs.declared.names.RowName.{RowName}
use Rattle.table_model.proofs.NameOrder.{row_names_total, exact_row_names}
use Rattle.catalogue_join.specs.RowRange.{RowRange, rows_between, rows_listed, rows_in as rows_deleted}
use Rattle.segment_core.specs.Format.{AreBytes, number, valid_all, read_whole}
use Rattle.segment_core.specs.SegmentBytes.{batch_columns}
use Rattle.replica_store.specs.Segments.{Entry as Held, IsStored, rows_in}
use Rattle.replica_store.specs.Exchange.{OfferForm, AreOffered}
use Rattle.replica_store.specs.Replica.{batch_limit}
use Rattle.column_file.specs.SummaryBytes.{head, proper_name, precedes, is_after, batch_name, name_count}
use Rattle.column_file.specs.ContainerBytes.{row_count, Entry, entry_of, name_of, batch, batches, Deleted, deleted_of, is_named, is_range, begins_after, range_parts, range, ranges, container, IsFound}
use Rattle.column_file.specs.Files.{held_of, range_of, segments_of, offer_held, offer_read, IsRangeGiven}
use Rattle.column_file.proofs.ContainerLaws.{container_is_lawful}
use Rattle.column_file.proofs.SummaryWriting.{whole_read}

-- ---- what is valid

-- the parts of a valid container
pub record ContainerParts (t : Table) (es : List Entry) (ds : List Deleted) : Type 0 where
  pub count : length es ≤ batch_limit
  pub batches : valid_all (batch t) [] es ≡ true
  pub ranges : valid_all range [] ds ≡ true

pub container_parts : (bytes : List ℕ) (t : Table) (es : List Entry) (ds : List Deleted) → AreBytes bytes → read_whole container bytes ≡ Ok (t, (es, ds)) → ContainerParts t es ds
unfolding container batches name_count ranges
container_parts bytes t es ds fit is =
    let n = length es in
    let m = length ds in
    let valid = (container_is_lawful.takes (length bytes) bytes (t, (es, ds)) [] fit (whole_read container bytes (t, (es, ds)) is)).1 in
    let a = and_parts ((head (codes "FLCF")).valid t) ((((number 4).valid n && leb n batch_limit) && (eqb n n && valid_all (batch t) [] es)) && ((number 8).valid m && (eqb m m && valid_all range [] ds))) valid in
    let b = and_parts (((number 4).valid n && leb n batch_limit) && (eqb n n && valid_all (batch t) [] es)) ((number 8).valid m && (eqb m m && valid_all range [] ds)) a.1 in
    let c = and_parts ((number 4).valid n && leb n batch_limit) (eqb n n && valid_all (batch t) [] es) b.0 in
    let d = and_parts ((number 4).valid n) (leb n batch_limit) c.0 in
    let e = and_parts (eqb n n) (valid_all (batch t) [] es) c.1 in
    let f = and_parts ((number 8).valid m) (eqb m m && valid_all range [] ds) b.1 in
    let g = and_parts (eqb m m) (valid_all range [] ds) f.1 in
    record { count = leb-true _ _ d.1; batches = e.1; ranges = g.1 }

-- ---- names in order

pub after_last : (front : List BatchName) (x n : BatchName) → is_after (front ++ x ∷ []) n ≡ precedes x n
after_last front x n =
    let long : length (front ++ x ∷ []) ≡ length front + 1 = length-append front (x ∷ []) in
    let some : eqb (length (front ++ x ∷ [])) 0 ≡ false = grind (arith, nat_tests) in
    let last : length (front ++ x ∷ []) - 1 ≡ length front = omega arith in
    ap (λ (b : Bool). b || precedes (get_or (front ++ x ∷ []) (length (front ++ x ∷ []) - 1) n) n) some
    ∙ ap (λ (k : ℕ). precedes (get_or (front ++ x ∷ []) k n) n) last
    ∙ ap (λ (y : BatchName). precedes y n) (get_or-append_seam front x [] n)

transitive : (a b c d e f : ℕ) → (ltb a c || (eqb a c && ltb b d)) ≡ true → (ltb c e || (eqb c e && ltb d f)) ≡ true → (ltb a e || (eqb a e && ltb b f)) ≡ true
transitive a b c d e f h k = grind (arith, nat_tests)

precedes_trans : (x y z : BatchName) → precedes x y ≡ true → precedes y z ≡ true → precedes x z ≡ true
precedes_trans x y z h k = transitive x.origin.0 x.number.0 y.origin.0 y.number.0 z.origin.0 z.number.0 h k

less_numbers : (a b c d : ℕ) → (ltb a c || (eqb a c && ltb b d)) ≡ true → is_lt (ordering_then (nat_cmp a c) (nat_cmp b d)) ≡ true
less_numbers a b c d h = grind (arith, nat_tests)

pub precedes_less : (x y : BatchName) → precedes x y ≡ true → is_lt (name_cmp x y) ≡ true
precedes_less x y h = less_numbers x.origin.0 x.number.0 y.origin.0 y.number.0 h

-- a valid batch comes after the ones before it
batch_after : (t : Table) (front : List Entry) (e : Entry) → (batch t front).valid e ≡ true → is_after (map name_of front) e.0 ≡ true
unfolding batch batch_name
batch_after t front e valid =
    let v = and_parts (proper_name.valid e.0 && is_after (map name_of front) e.0) (row_count.valid e.1.0 && (batch_columns t e.1.0).valid e.1.1) valid in
    (and_parts (proper_name.valid e.0) (is_after (map name_of front) e.0) v.0).1

abbrev pub Above : Entry → List Entry → Type 0
Above x es = AllByRecursion (λ (e : Entry). precedes x.0 e.0 ≡ true) es

higher : (x y : Entry) (es : List Entry) → precedes x.0 y.0 ≡ true → Above y es → Above x es
higher x y [] h a = tt
higher x y (e ∷ es) h a = (precedes_trans x.0 y.0 e.0 h a.0, higher x y es h a.1)

pub above : (t : Table) (front : List Entry) (x : Entry) (es : List Entry) → valid_all (batch t) (front ++ x ∷ []) es ≡ true → Above x es
unfolding valid_all
above t front x [] valid = tt
above t front x (e ∷ es) valid =
    let v = and_parts ((batch t (front ++ x ∷ [])).valid e) (valid_all (batch t) ((front ++ x ∷ []) ++ e ∷ []) es) valid in
    let after = batch_after t (front ++ x ∷ []) e v.0 in
    let names : map name_of (front ++ x ∷ []) ≡ map name_of front ++ x.0 ∷ [] = map-append name_of front (x ∷ []) in
    let here : precedes x.0 e.0 ≡ true = sym (after_last (map name_of front) x.0 e.0) ∙ ap (λ (ns : List BatchName). is_after ns e.0) (sym names) ∙ after in
    (here, higher x e es here (above t (front ++ x ∷ []) e es v.1))

all_below : (x : Held) (items : List Held) → Above (entry_of x) (map entry_of items) → below_all name_cmp x.0 items ≡ true
all_below x [] a = refl
all_below x (y ∷ items) a = and_from (is_lt (name_cmp x.0 y.0)) (below_all name_cmp x.0 items) (precedes_less x.0 y.0 a.0) (all_below x items a.1)

sorted_items : (t : Table) (front : List Entry) (items : List Held) → valid_all (batch t) front (map entry_of items) ≡ true → is_sorted name_cmp items ≡ true
unfolding valid_all
sorted_items t front [] valid = refl
sorted_items t front (x ∷ items) valid =
    let v = and_parts ((batch t front).valid (entry_of x)) (valid_all (batch t) (front ++ entry_of x ∷ []) (map entry_of items)) valid in
    and_from (below_all name_cmp x.0 items) (is_sorted name_cmp items) (all_below x items (above t front (entry_of x) (map entry_of items) v.1)) (sorted_items t (front ++ entry_of x ∷ []) items v.1)

stored_of : (t : Table) (items : List Held) → All (IsFound t) items → All (IsStored t) items
stored_of t items found = λ k d below. let f = found k d below in f.stored

-- what was read may be offered
pub are_offered : (bytes : List ℕ) (t : Table) (items : List Held) (ds : List Deleted) → AreBytes bytes → read_whole container bytes ≡ Ok (t, (map entry_of items, ds)) → All (IsFound t) items → AreOffered t items
are_offered bytes t items ds fit is found =
    let p = container_parts bytes t (map entry_of items) ds fit is in
    let count = p.count in
    record {
      sorted = passes (is_sorted name_cmp items) (sorted_items t [] items p.batches);
      limit = omega (arith, length-map items entry_of);
      stored = stored_of t items found;
    }

-- ---- deleted rows

range_given : (front : List Deleted) (r : RowRange) → (range front).valid (deleted_of r) ≡ true → IsRangeGiven r
unfolding range
range_given front r valid =
    let d = deleted_of r in
    let a = and_parts ((range_parts.valid d && is_named d) && is_range d) (begins_after front d) valid in
    let b = and_parts (range_parts.valid d && is_named d) (is_range d) a.0 in
    let c = and_parts (range_parts.valid d) (is_named d) b.0 in
    record { proper = c.1; not_empty = leb-true _ _ b.1 }

each_given : (front : List Deleted) (rs : List RowRange) → valid_all range front (map deleted_of rs) ≡ true → AllByRecursion IsRangeGiven rs
unfolding valid_all
each_given front [] valid = tt
each_given front (r ∷ rs) valid =
    let v = and_parts ((range front).valid (deleted_of r)) (valid_all range (front ++ deleted_of r ∷ []) (map deleted_of rs)) valid in
    (range_given front r v.0, each_given (front ++ deleted_of r ∷ []) rs v.1)

pub are_given : (bytes : List ℕ) (t : Table) (es : List Entry) (rs : List RowRange) → AreBytes bytes → read_whole container bytes ≡ Ok (t, (es, map deleted_of rs)) → All IsRangeGiven rs
are_given bytes t es rs fit is = All-from_recursion IsRangeGiven rs (each_given [] rs (container_parts bytes t es (map deleted_of rs) fit is).ranges)

listed-append : (rs : List RowRange) (r : RowRange) → rows_listed (rs ++ r ∷ []) ≡ rows_listed rs ++ rows_between r.0 r.1
listed-append [] r = append-nil (rows_between r.0 r.1)
listed-append (q ∷ rs) r = ap (λ (xs : List RowName). rows_between q.0 q.1 ++ xs) (listed-append rs r) ∙ sym (append_assoc (rows_between q.0 q.1) (rows_listed rs) (rows_between r.0 r.1))

-- the rows of one more range
pub rows_more : (rs : List RowRange) (i : ℕ) (d : RowRange) → i < length rs → set.union (rows_deleted (take i rs)) (set.from_list (rows_between (get_or rs i d).0 (get_or rs i d).1)) ≡ rows_deleted (take (i + 1) rs)
unfolding rows_deleted
rows_more rs i d below =
    let r = get_or rs i d in
    let listed : rows_listed (take (i + 1) rs) ≡ rows_listed (take i rs) ++ rows_between r.0 r.1 = ap rows_listed (take_more rs i d below) ∙ listed-append (take i rs) r in
    set.same_set row_names_total exact_row_names (set.union (set.from_list (rows_listed (take i rs))) (set.from_list (rows_between r.0 r.1))) (set.from_list (rows_listed (take (i + 1) rs)))
    (λ q.
    set.contains-union row_names_total (set.from_list (rows_listed (take i rs))) (set.from_list (rows_between r.0 r.1)) q
    ∙ ap (λ (b : Bool). b || set.contains (set.from_list {R = row_name_cmp} (rows_between r.0 r.1)) q) (set.contains-from_list row_names_total (rows_listed (take i rs)) q)
    ∙ ap (λ (b : Bool). list_any (eq_by_cmp row_name_cmp q) (rows_listed (take i rs)) || b) (set.contains-from_list row_names_total (rows_between r.0 r.1) q)
    ∙ sym (list_any-append (eq_by_cmp row_name_cmp q) (rows_listed (take i rs)) (rows_between r.0 r.1))
    ∙ ap (list_any (eq_by_cmp row_name_cmp q)) (sym listed)
    ∙ sym (set.contains-from_list row_names_total (rows_listed (take (i + 1) rs)) q))

pub rows_none : rows_deleted [] ≡ set.empty
unfolding rows_deleted
rows_none = refl

-- ---- offers

pub held_back : (t : Table) (items : List Held) → All (IsFound t) items → map held_of (map entry_of items) ≡ items
held_back t [] found = refl
held_back t (x ∷ items) found =
    let one = found 0 x (omega arith) in
    let same = one.rows in
    let here : held_of (entry_of x) ≡ x = λ i. (x.0, record { rows = sym same i; forms = x.1.forms }) in
    let rest = held_back t items (λ k d below. found (suc k) d (omega (arith, below))) in
    λ i. here i ∷ rest i

pub range_back : (rs : List RowRange) → map range_of (map deleted_of rs) ≡ rs
range_back [] = refl
range_back (r ∷ rs) = let rest = range_back rs in λ i. r ∷ rest i

-- the offer of what was read is what the bytes hold
pub offer_is : (o : OfferForm) (t : Table) (items : List Held) (rs : List RowRange) → All (IsFound t) items → AreOffered t items → o.schema ≡ t → o.state.batches ≡ rows_in o.segments → o.state.deleted ≡ rows_deleted rs → finite.entries o.segments ≡ items
    → o ≡ offer_held (t, (map entry_of items, map deleted_of rs))
offer_is o t items rs found offered schema rows deleted entries =
    let back = held_back t items found in
    let made : segments_of (map entry_of items) ≡ finite.from_sorted items = ap (λ (xs : List Held). finite.from_sorted {R = name_cmp} xs) back in
    let segments : o.segments ≡ segments_of (map entry_of items) = finite.same_entries_map o.segments (finite.from_sorted items) (entries ∙ sym (finite.entries-from_sorted name_cmp items offered.sorted)) ∙ sym made in
    let batches : o.state.batches ≡ rows_in (segments_of (map entry_of items)) = rows ∙ ap rows_in segments in
    let rows_same : o.state.deleted ≡ rows_deleted (map range_of (map deleted_of rs)) = deleted ∙ ap rows_deleted (sym (range_back rs)) in
    λ i. record { schema = schema i; state = record { batches = batches i; deleted = rows_same i }; segments = segments i }

-- and so is what reading them gives
pub offer_was_read : (bytes : List ℕ) (c : Table × (List Entry × List Deleted)) (o : OfferForm) → read_whole container bytes ≡ Ok c → o ≡ offer_held c → offer_read bytes ≡ Ok o
offer_was_read bytes c o is same = rw (is, same) refl
