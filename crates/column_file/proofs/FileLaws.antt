-- A canonical file opens to its table and state, so no other has it.
use Rattle.std.proofs.Common.{◌≡◌, ℕ, zero, suc, ◌+◌, ◌-◌, ◌≤◌, ◌<◌, Bool, true, false, cond, ◌&&◌, ◌||◌, eqb, leb, ltb, T, All, List, [], ◌∷◌, ◌++◌, map, length, get_or, codes, Result, Ok, refl, sym, ap, subst, ◌∙◌, arith, lit<}
use Rattle.std.specs.List.{AllByRecursion}
use Rattle.std.specs.Ordering.{nat_cmp, ordering_then, is_lt, is_eq}
use Rattle.std.specs.FinMap as finite
use Rattle.std.specs.FinMap.Entries.{below_all, is_sorted}
use Rattle.std.proofs.Math.Seq.{get_or-append_seam}
use Rattle.std.proofs.lemmas.Bool.{and_parts, and_from, eq-eqb, le-leb}
use Rattle.std.proofs.lemmas.List.Elements.{All-from_recursion, recursion_from_All}
use Rattle.std.proofs.lemmas.Bool.Decides.{nat_tests}
use Rattle.std.proofs.lemmas.List.{map-append, length-append, length-map, append-nil}
use Rattle.std.specs.Bool.{passes}
use Rattle.table_model.specs.Name.{name_cmp, is_proper_name}
use Rattle.table_model.specs.State.{State, Batch}
use Rattle.table_model.specs.Table.{Table, IsTable, row_limit}
use Rattle.table_model.specs.declared.names.BatchName.{BatchName}
use Rattle.table_model.specs.declared.refusal.Refusal.{Refusal}
use Rattle.table_model.specs.declared.refusal.Refusal.TheVariants.{BadMagic}
use Rattle.catalogue_join.specs.RowRange.{RowRange, IsRowRange, IsBefore, AreMaximal, rows_in as rows_deleted}
use Rattle.table_model.specs.Reading.{◌>>=◌}
use Rattle.segment_core.specs.Format.{Format, IsLawful, constant, number, valid_all, read_whole}
use Rattle.table_model.specs.Identifier.{same_text}
use Rattle.table_model.proofs.Passed.{true_from_T}
use Rattle.segment_core.specs.Segment.{widths_of, canonical_segment}
use Rattle.segment_core.specs.SegmentBytes.{batch_columns, HasBytesIn}
use Rattle.segment_core.proofs.BuildLemmas.{canonical_is_segment, canonical_rows}
use Rattle.segment_core.proofs.NumberLaws.{number_is_valid}
use Rattle.segment_core.proofs.ValidLemmas.{has_bytes}
use Rattle.segment_core.proofs.WidthLemmas.{widths_in-canonical}
use Rattle.replica_store.specs.Replica.{AllFit, IsEntry, batch_limit}
use Rattle.replica_store.specs.Segments.{Entry as Held, IsStored, rows_in, rows_entries}
use Rattle.replica_store.specs.Exchange.{OfferForm}
use Rattle.replica_store.proofs.RowsIn.{entries-rows_in}
use Rattle.column_file.specs.SchemaBytes.{schema, has_tiny, version_of}
use Rattle.column_file.specs.SummaryBytes.{is_version, version, has_version, head, any_name, proper_name, is_after, batch_name, name_count}
use Rattle.column_file.specs.ContainerBytes.{row_count, Entry, entry_of, name_of, batch, batches, Deleted, deleted_of, is_named, is_range, ends_before, begins_after, range_parts, range, ranges, container, IsFound}
use Rattle.column_file.specs.Files.{range_of, segments_of, offer_held, offer_read, file_of, canonical_entry, canonical_file, judged, canonical_read, offer_bytes, IsNumbered, HasBatchBytes, HasFile, OpensTo, FilesOpen, FilesOpenToOne, SameFileSameState, OffersAreReadAgain}
use Rattle.column_file.proofs.ContainerLaws.{container_is_lawful}
use Rattle.column_file.proofs.OfferReading.{after_last, held_back, offer_is, offer_was_read, range_back}
use Rattle.column_file.proofs.Openings.{same_itself}
use Rattle.column_file.proofs.RangeLists.{ranges_are}
use Rattle.column_file.proofs.SchemaWriting.{table_is_valid}

-- ---- batches

count_valid : (n : ℕ) → 1 ≤ n → n ≤ row_limit → row_count.valid n ≡ true
unfolding row_count
count_valid zero some limit = absurd (omega arith)
count_valid (suc n) some limit = number_is_valid 2 n (omega arith)

any_name_valid : (name : BatchName) → IsNumbered name → any_name.valid name ≡ true
unfolding any_name
any_name_valid name h =
    and_from ((number 4).valid name.origin.0) ((number 4).valid name.number.0) (number_is_valid 4 name.origin.0 (let o = h.origin in omega arith)) (number_is_valid 4 name.number.0 (let n = h.number in omega arith))

pub name_valid : (front : List BatchName) (name : BatchName) → IsNumbered name → is_proper_name name ≡ true → is_after front name ≡ true → (batch_name front).valid name ≡ true
unfolding batch_name proper_name
name_valid front name numbered proper after =
    and_from (any_name.valid name && is_proper_name name) (is_after front name) (and_from (any_name.valid name) (is_proper_name name) (any_name_valid name numbered) proper) after

canonical_found : (t : Table) (e : BatchName × Batch) → IsEntry t e → IsFound t (canonical_entry t e)
canonical_found t e is =
    let batch = is.fits in
    let stored : IsStored t (canonical_entry t e) = record { proper = is.proper; fits = is.fits; widths = widths_in-canonical (widths_of t) e.1 batch.some } in
    record { stored = stored; rows = sym (canonical_rows t e.1 is.fits) }

columns_valid : (t : Table) (e : BatchName × Batch) → IsTable t → IsEntry t e → HasBytesIn t (canonical_segment t e.1)
columns_valid t e table is =
    let found = canonical_found t e is in
    let stored = found.stored in
    has_bytes (canonical_segment t e.1) (length e.1) t (canonical_is_segment t e.1 table is.fits) found.rows stored.widths

batch_valid : (t : Table) (front : List Entry) (e : Held) → HasBatchBytes t e → is_after (map name_of front) e.0 ≡ true → (batch t front).valid (entry_of e) ≡ true
unfolding batch
batch_valid t front e h after =
    let found = h.found in
    let stored = found.stored in
    let rows = stored.fits in
    let n = length e.1.rows in
    and_from ((batch_name (map name_of front)).valid e.0) (row_count.valid n && (batch_columns t n).valid e.1.forms) (name_valid (map name_of front) e.0 h.numbered stored.proper after)
    (and_from (row_count.valid n) ((batch_columns t n).valid e.1.forms) (count_valid n rows.some rows.limit) h.columns)

pub less_numbers : (a b c d : ℕ) → is_lt (ordering_then (nat_cmp a c) (nat_cmp b d)) ≡ true → (ltb a c || (eqb a c && ltb b d)) ≡ true
less_numbers a b c d h = grind (arith, nat_tests)

-- the first of the batches comes after those before it
abbrev Starts : List Entry → List Held → Type 0
Starts front [] = Unit {0}
Starts front (e ∷ es) = is_after (map name_of front) e.0 ≡ true

next_starts : (front : List Entry) (x : Held) (es : List Held) → below_all name_cmp x.0 es ≡ true → Starts (front ++ entry_of x ∷ []) es
next_starts front x [] below = tt
next_starts front x (e ∷ es) below =
    let less = (and_parts (is_lt (name_cmp x.0 e.0)) (below_all name_cmp x.0 es) below).0 in
    let names : map name_of (front ++ entry_of x ∷ []) ≡ map name_of front ++ x.0 ∷ [] = map-append name_of front (entry_of x ∷ []) in
    ap (λ (ns : List BatchName). is_after ns e.0) names ∙ after_last (map name_of front) x.0 e.0 ∙ less_numbers x.0.origin.0 x.0.number.0 e.0.origin.0 e.0.number.0 less

batches_valid : (t : Table) (front : List Entry) (es : List Held) → AllByRecursion (HasBatchBytes t) es → is_sorted name_cmp es ≡ true → Starts front es → valid_all (batch t) front (map entry_of es) ≡ true
unfolding valid_all
batches_valid t front [] bytes sorted starts = refl
batches_valid t front (e ∷ es) bytes sorted starts =
    let s = and_parts (below_all name_cmp e.0 es) (is_sorted name_cmp es) sorted in
    and_from ((batch t front).valid (entry_of e)) (valid_all (batch t) (front ++ entry_of e ∷ []) (map entry_of es))
    (batch_valid t front e bytes.0 starts)
    (batches_valid t (front ++ entry_of e ∷ []) es bytes.1 s.1 (next_starts front e es s.0))

-- ---- ranges

after_range : (front : List Deleted) (x d : Deleted) → begins_after (front ++ x ∷ []) d ≡ ends_before x d
after_range front x d =
    let long : length (front ++ x ∷ []) ≡ length front + 1 = length-append front (x ∷ []) in
    let some : eqb (length (front ++ x ∷ [])) 0 ≡ false = grind (arith, nat_tests) in
    let last : length (front ++ x ∷ []) - 1 ≡ length front = omega arith in
    ap (λ (b : Bool). b || ends_before (get_or (front ++ x ∷ []) (length (front ++ x ∷ []) - 1) d) d) some
    ∙ ap (λ (k : ℕ). ends_before (get_or (front ++ x ∷ []) k d) d) last
    ∙ ap (λ (y : Deleted). ends_before y d) (get_or-append_seam front x [] d)

apart_numbers : (o n l o' n' f : ℕ) → (is_lt (ordering_then (nat_cmp o o') (nat_cmp n n')) || (is_eq (ordering_then (nat_cmp o o') (nat_cmp n n')) && ltb (l + 1) f)) ≡ true → ((ltb o o' || (eqb o o' && ltb n n')) || (eqb o o' && (eqb n n' && ltb l f))) ≡ true
apart_numbers o n l o' n' f h = grind (arith, nat_tests)

abbrev StartsRanges : List Deleted → List RowRange → Type 0
StartsRanges front [] = Unit {0}
StartsRanges front (r ∷ rs) = begins_after front (deleted_of r) ≡ true

next_range : (front : List Deleted) (r : RowRange) (rs : List RowRange) → IsBefore r rs → StartsRanges (front ++ deleted_of r ∷ []) rs
next_range front r [] before = tt
next_range front r (q ∷ rs) before =
    after_range front (deleted_of r) (deleted_of q) ∙ apart_numbers r.0.batch.origin.0 r.0.batch.number.0 r.1 q.0.batch.origin.0 q.0.batch.number.0 q.0.ordinal before

range_valid : (front : List Deleted) (r : RowRange) → IsRowRange r → begins_after front (deleted_of r) ≡ true → (range front).valid (deleted_of r) ≡ true
unfolding range range_parts
range_valid front r is after =
    let d = deleted_of r in
    let order = is.not_empty in
    let last = is.last in
    let ordinals = and_from ((number 2).valid r.0.ordinal) ((number 2).valid r.1) (number_is_valid 2 r.0.ordinal (omega arith)) (number_is_valid 2 r.1 (omega arith)) in
    let parts = and_from (any_name.valid r.0.batch) ((number 2).valid r.0.ordinal && (number 2).valid r.1) (any_name_valid r.0.batch (record { origin = is.origin; number = is.number })) ordinals in
    let named = and_from (any_name.valid r.0.batch && ((number 2).valid r.0.ordinal && (number 2).valid r.1)) (is_named d) parts is.proper in
    let ordered = and_from ((any_name.valid r.0.batch && ((number 2).valid r.0.ordinal && (number 2).valid r.1)) && is_named d) (is_range d) named (le-leb _ _ order) in
    and_from (((any_name.valid r.0.batch && ((number 2).valid r.0.ordinal && (number 2).valid r.1)) && is_named d) && is_range d) (begins_after front d) ordered after

ranges_valid : (front : List Deleted) (rs : List RowRange) → AreMaximal rs → StartsRanges front rs → valid_all range front (map deleted_of rs) ≡ true
unfolding valid_all
ranges_valid front [] maximal starts = refl
ranges_valid front (r ∷ rs) maximal starts =
    and_from ((range front).valid (deleted_of r)) (valid_all range (front ++ deleted_of r ∷ []) (map deleted_of rs)) (range_valid front r maximal.0 starts) (ranges_valid (front ++ deleted_of r ∷ []) rs maximal.2 (next_range front r rs maximal.1))

-- ---- the file

version_valid : (tiny : Bool) → ((number 2).valid (cond tiny 2 1) && is_version (cond tiny 2 1)) ≡ true
version_valid true = and_from ((number 2).valid 2) true (number_is_valid 2 2 (lit< tt)) refl
version_valid false = and_from ((number 2).valid 1) true (number_is_valid 2 1 (lit< tt)) refl

pub head_valid : (magic : List ℕ) (t : Table) → (constant magic BadMagic).valid magic ≡ true → IsTable t → (head magic).valid t ≡ true
unfolding head version
head_valid magic t first table =
    let v = version_of t in
    let stands = and_from ((number 2).valid v && is_version v) ((schema v).valid t) (version_valid (has_tiny t)) (table_is_valid t table) in
    and_from ((constant magic BadMagic).valid magic && (((number 2).valid v && is_version v) && (schema v).valid t)) (has_version (magic, (v, t)))
    (and_from ((constant magic BadMagic).valid magic) (((number 2).valid v && is_version v) && (schema v).valid t) first stands) (eq-eqb v v refl)

first_start : (es : List Held) → Starts [] es
first_start [] = tt
first_start (e ∷ es) = refl

first_range : (rs : List RowRange) → StartsRanges [] rs
first_range [] = tt
first_range (r ∷ rs) = refl

pub container_valid : (t : Table) (es : List Held) (rs : List RowRange) → IsTable t → AllByRecursion (HasBatchBytes t) es → length es ≤ batch_limit → is_sorted name_cmp es ≡ true → AreMaximal rs → length rs < 18446744073709551616
    → container.valid (t, (map entry_of es, map deleted_of rs)) ≡ true
unfolding container batches name_count ranges
container_valid t es rs table bytes limit sorted maximal few =
    let items = map entry_of es in
    let ds = map deleted_of rs in
    let long : length items ≡ length es = length-map es entry_of in
    let many : length ds ≡ length rs = length-map rs deleted_of in
    let count = and_from ((number 4).valid (length items)) (leb (length items) batch_limit) (number_is_valid 4 (length items) (omega arith)) (le-leb _ _ (omega arith)) in
    let listed = and_from (eqb (length items) (length items)) (valid_all (batch t) [] items) (eq-eqb _ _ refl) (batches_valid t [] es bytes sorted (first_start es)) in
    let ranged = and_from (eqb (length ds) (length ds)) (valid_all range [] ds) (eq-eqb _ _ refl) (ranges_valid [] rs maximal (first_range rs)) in
    let deletions = and_from ((number 8).valid (length ds)) (eqb (length ds) (length ds) && valid_all range [] ds) (number_is_valid 8 (length ds) (omega arith)) ranged in
    let held = and_from ((number 4).valid (length items) && leb (length items) batch_limit) (eqb (length items) (length items) && valid_all (batch t) [] items) count listed in
    and_from ((head (codes "FLCF")).valid t) ((((number 4).valid (length items) && leb (length items) batch_limit) && (eqb (length items) (length items) && valid_all (batch t) [] items)) && ((number 8).valid (length ds) && (eqb (length ds) (length ds) && valid_all range [] ds))) (head_valid (codes "FLCF") t refl table)
    (and_from (((number 4).valid (length items) && leb (length items) batch_limit) && (eqb (length items) (length items) && valid_all (batch t) [] items)) ((number 8).valid (length ds) && (eqb (length ds) (length ds) && valid_all range [] ds)) held deletions)

-- what is valid is read whole from its own bytes
pub whole_again : {A : Type 0} (f : Format A) → IsLawful f → (x : A) → f.valid x ≡ true → read_whole f (f.spell x) ≡ Ok x
whole_again {A = A} f law x valid =
    let read : f.read (length (f.spell x)) (f.spell x) ≡ Ok (x, []) = subst (λ (bytes : List ℕ). f.read (length (f.spell x)) bytes ≡ Ok (x, [])) (append-nil (f.spell x)) (law.again (length (f.spell x)) x [] valid) in
    rw read refl

each_found : (t : Table) (es : List (BatchName × Batch)) → AllFit t es → AllByRecursion (IsFound t) (map (canonical_entry t) es)
each_found t [] fit = tt
each_found t (e ∷ es) fit = (canonical_found t e fit.0, each_found t es fit.1)

abbrev AllNumbered : List (BatchName × Batch) → Type 0
AllNumbered es = All (λ (e : BatchName × Batch). IsNumbered e.0) es

-- canonical segments have bytes
canonical_bytes : (t : Table) (es : List (BatchName × Batch)) → IsTable t → AllFit t es → AllNumbered es → AllByRecursion (HasBatchBytes t) (map (canonical_entry t) es)
canonical_bytes t [] table fit numbered = tt
canonical_bytes t (e ∷ es) table fit numbered =
    (record { found = canonical_found t e fit.0; columns = columns_valid t e table fit.0; numbered = numbered 0 e (omega arith) }, canonical_bytes t es table fit.1 (λ k d below. numbered (suc k) d (omega (arith, below))))

pub rows_back : (t : Table) (es : List (BatchName × Batch)) → rows_entries (map (canonical_entry t) es) ≡ es
rows_back t [] = refl
rows_back t (e ∷ es) = let rest = rows_back t es in λ i. e ∷ rest i

below_kept : (t : Table) (x : BatchName) (es : List (BatchName × Batch)) → below_all name_cmp x (map (canonical_entry t) es) ≡ below_all name_cmp x es
below_kept t x [] = refl
below_kept t x (e ∷ es) = ap (λ (b : Bool). is_lt (name_cmp x e.0) && b) (below_kept t x es)

sorted_kept : (t : Table) (es : List (BatchName × Batch)) → is_sorted name_cmp (map (canonical_entry t) es) ≡ is_sorted name_cmp es
sorted_kept t [] = refl
sorted_kept t (e ∷ es) = (λ i. below_kept t e.0 es i && sorted_kept t es i)

pub file_valid : (t : Table) (state : State) (h : HasFile t state) → container.valid (t, (map entry_of (map (canonical_entry t) (finite.entries state.batches)), map deleted_of (h.ranges))) ≡ true
file_valid t state h =
    let es = finite.entries state.batches in
    let within = h.within in
    let limit : length (map (canonical_entry t) es) ≤ batch_limit = (let l = within.limit in omega (arith, finite.len-entries state.batches, length-map es (canonical_entry t))) in
    container_valid t (map (canonical_entry t) es) h.ranges h.schema (canonical_bytes t es h.schema within.fits h.names) limit
    (sorted_kept t es ∙ true_from_T (is_sorted name_cmp es) (finite.entries_sorted state.batches)) h.maximal h.count

pub files_open : FilesOpen
unfolding file_of
files_open t state h =
    let es = finite.entries state.batches in
    let items = map (canonical_entry t) es in
    let rs = h.ranges in
    let within = h.within in
    let c : Table × (List Entry × List Deleted) = (t, (map entry_of items, map deleted_of rs)) in
    let ranges = ranges_are rs state.deleted (h.maximal) (h.rows) in
    let file : canonical_file t state ≡ container.spell c = ap (λ (xs : List RowRange). container.spell (t, (map entry_of items, map deleted_of xs))) ranges in
    let read : read_whole container (canonical_file t state) ≡ Ok c = ap (read_whole container) file ∙ whole_again container container_is_lawful c (file_valid t state h) in
    let sorted : T (is_sorted name_cmp items) = passes (is_sorted name_cmp items) (sorted_kept t es ∙ true_from_T (is_sorted name_cmp es) (finite.entries_sorted state.batches)) in
    let back = held_back t items (All-from_recursion (IsFound t) items (each_found t es within.fits)) in
    let segments : finite.entries (segments_of (map entry_of items)) ≡ items = ap (λ (xs : List Held). finite.entries (finite.from_sorted {R = name_cmp} xs)) back ∙ finite.entries-from_sorted name_cmp items sorted in
    let entries : finite.entries (rows_in (segments_of (map entry_of items))) ≡ es = entries-rows_in (segments_of (map entry_of items)) ∙ ap rows_entries segments ∙ rows_back t es in
    let batches : rows_in (segments_of (map entry_of items)) ≡ state.batches = finite.same_entries_map _ _ entries in
    let deleted : rows_deleted (map range_of (map deleted_of rs)) ≡ state.deleted = ap rows_deleted (range_back rs) ∙ (h.rows) in
    let same : (offer_held c).state ≡ state = λ i. record { batches = batches i; deleted = deleted i } in
    let is : offer_read (canonical_file t state) ≡ Ok (offer_held c) = rw read refl in
    let equal : same_text (canonical_file t state) (canonical_file t (offer_held c).state) ≡ true = ap (λ (s : State). same_text (canonical_file t state) (canonical_file t s)) same ∙ same_itself (canonical_file t state) in
    let judged_ok : judged (canonical_file t state) (offer_held c) ≡ Ok (offer_held c) = rw equal refl in
    let whole : canonical_read (canonical_file t state) ≡ Ok (offer_held c) = ap (λ (r : Result OfferForm Refusal). r >>= judged (canonical_file t state)) is ∙ judged_ok in
    (offer_held c, whole, refl, same, segments)

-- what bytes open to is one table and one state
pub files_open_to_one : FilesOpenToOne
files_open_to_one bytes s t a b f g =
    let both : one f.0 ≡ one g.0 = sym f.1 ∙ g.1 in
    let same : f.0 ≡ g.0 = cc in
    (sym f.2 ∙ ap (λ (o : OfferForm). o.schema) same ∙ g.2, sym f.3 ∙ ap (λ (o : OfferForm). o.state) same ∙ g.3)
  where
    one : OfferForm → Result OfferForm Refusal
    one o = Ok o

pub same_file_same_state : SameFileSameState
same_file_same_state s t a b h k e =
    let P : List ℕ → Type 0 = λ bytes. OpensTo bytes t b in
    files_open_to_one (canonical_file s a) s t a b (files_open s a h) (subst P (sym e) (files_open t b k))

-- ---- offers

pub offers_are_read_again : OffersAreReadAgain
unfolding file_of
offers_are_read_again o h =
    let t = o.schema in
    let items = finite.entries o.segments in
    let rs = h.ranges in
    let offered = h.offered in
    let c : Table × (List Entry × List Deleted) = (t, (map entry_of items, map deleted_of rs)) in
    let file : offer_bytes o ≡ container.spell c = ap (λ (xs : List RowRange). container.spell (t, (map entry_of items, map deleted_of xs))) (ranges_are rs o.state.deleted h.maximal h.deleted) in
    let valid = container_valid t items rs h.schema (recursion_from_All (HasBatchBytes t) items h.batches) offered.limit (true_from_T (is_sorted name_cmp items) offered.sorted) h.maximal h.count in
    let read : read_whole container (offer_bytes o) ≡ Ok c = ap (read_whole container) file ∙ whole_again container container_is_lawful c valid in
    let found : All (IsFound t) items = λ k d below. (h.batches k d below).found in
    offer_was_read (offer_bytes o) c o read (offer_is o t items rs found offered refl h.rows (sym h.deleted) refl)
