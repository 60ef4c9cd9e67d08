-- The bytes of a summary are read as that summary.
use Rattle.std.proofs.Common.{◌≡◌, ◌≤◌, true, ◌&&◌, eqb, leb, ltb, IsTrue, List, [], ◌∷◌, ◌++◌, length, codes, Ok, refl, sym, ap, ◌∙◌, arith}
use Rattle.std.specs.List.{AllByRecursion, list_any}
use Rattle.std.specs.List.Sorted.{IsStrictlySortedBy}
use Rattle.std.specs.Ordering.{is_lt}
use Rattle.std.specs.declared.cmp.Ordering.TheVariants.{Less}
use Rattle.std.specs.FinSet as set
use Rattle.std.proofs.lemmas.Bool.{and_parts, and_from, eq-eqb, le-leb, ltb-true, or_right, or_left}
use Rattle.table_model.specs.Name.{name_cmp, is_proper_name}
use Rattle.table_model.specs.Table.{Table, IsTable}
use Rattle.table_model.specs.declared.names.BatchName.{BatchName}
use Rattle.table_model.proofs.NameOrder.{names_total}
use Rattle.catalogue_join.specs.Held.{IsListOf}
use Rattle.catalogue_join.specs.Span.{Rises, among}
use Rattle.catalogue_join.specs.declared.run.Run.{Run}
use Rattle.catalogue_join.specs.Run.{names_listed, names_in, run_shape}
use Rattle.catalogue_join.proofs.NameSets.{contains-names_in, is_bounded, same_name, same_name_parts, spot}
use Rattle.segment_core.specs.Format.{number, valid_all, read_whole}
use Rattle.segment_core.proofs.NumberLaws.{number_is_valid}
use Rattle.replica_store.specs.Exchange.{SummaryForm}
use Rattle.replica_store.specs.Replica.{batch_limit}
use Rattle.column_file.specs.Ordered.{in_order}
use Rattle.column_file.specs.SummaryBytes.{head, is_after, batch_name, name_count, names, summary, summary_bytes, summary_read}
use Rattle.column_file.specs.Files.{IsNumbered, HasSummaryBytes, SummariesAreReadAgain}
use Rattle.column_file.proofs.SummaryLaws.{summary_is_lawful}
use Rattle.column_file.proofs.OrderedLists.{listed_names, length-in_order, members-in_order}
use Rattle.column_file.proofs.OfferReading.{after_last}
use Rattle.column_file.proofs.FileLaws.{head_valid, less_numbers, name_valid, whole_again}

-- a name is numbered and proper
abbrev IsWritten : BatchName → Type 0
IsWritten name = IsNumbered name × (is_proper_name name ≡ true)

-- what is true of each name that is among those of a list
each_among : (P : BatchName → Type 0) (xs : List BatchName) → ((q : BatchName) → list_any (same_name q) xs ≡ true → P q) → AllByRecursion P xs
each_among P [] h = tt
each_among P (x ∷ xs) h =
    let itself : same_name x x ≡ true = same_name_parts x x ∙ and_from (eqb x.origin.0 x.origin.0) (eqb x.number.0 x.number.0) (eq-eqb _ _ refl) (eq-eqb _ _ refl) in
    (h x (or_left (same_name x x) (list_any (same_name x) xs) itself), each_among P xs (λ q e. h q (or_right (same_name q x) (list_any (same_name q) xs) e)))

-- the first of the names comes after those before it
abbrev Starts : List BatchName → List BatchName → Type 0
Starts front [] = Unit {0}
Starts front (x ∷ xs) = is_after front x ≡ true

next_starts : (front : List BatchName) (x : BatchName) (xs : List BatchName) → AllByRecursion (λ y. name_cmp x y ≡ Less) xs → Starts (front ++ x ∷ []) xs
next_starts front x [] above = tt
next_starts front x (y ∷ xs) above = after_last front x y ∙ less_numbers x.origin.0 x.number.0 y.origin.0 y.number.0 (ap is_lt above.0)

names_valid : (front xs : List BatchName) → IsStrictlySortedBy name_cmp xs → AllByRecursion IsWritten xs → Starts front xs → valid_all batch_name front xs ≡ true
unfolding valid_all IsStrictlySortedBy
names_valid front [] sorted written starts = refl
names_valid front (x ∷ xs) sorted written starts =
    and_from ((batch_name front).valid x) (valid_all batch_name (front ++ x ∷ []) xs) (name_valid front x (written.0).0 (written.0).1 starts)
    (names_valid (front ++ x ∷ []) xs sorted.1 written.1 (next_starts front x xs sorted.0))

first_start : (xs : List BatchName) → Starts [] xs
first_start [] = tt
first_start (x ∷ xs) = refl

summary_valid : (t : Table) (xs : List BatchName) → IsTable t → length xs ≤ batch_limit → IsStrictlySortedBy name_cmp xs → AllByRecursion IsWritten xs → summary.valid (t, xs) ≡ true
unfolding summary names name_count
summary_valid t xs table limit sorted written =
    let n = length xs in
    let count = and_from ((number 4).valid n) (leb n batch_limit) (number_is_valid 4 n (omega arith)) (le-leb _ _ limit) in
    let listed = and_from (eqb n n) (valid_all batch_name [] xs) (eq-eqb _ _ refl) (names_valid [] xs sorted written (first_start xs)) in
    and_from ((head (codes "FLSM")).valid t) (((number 4).valid n && leb n batch_limit) && (eqb n n && valid_all batch_name [] xs)) (head_valid (codes "FLSM") t refl table)
    (and_from ((number 4).valid n && leb n batch_limit) (eqb n n && valid_all batch_name [] xs) count listed)

-- a summary that has bytes
pub has_summary_valid : (s : SummaryForm) → HasSummaryBytes s → summary.valid (s.schema, in_order name_cmp s.names) ≡ true
has_summary_valid s h =
    let xs = in_order name_cmp s.names in
    let listable = h.listable in
    let listed = listed_names s.names in
    let limit : length xs ≤ batch_limit = (let l = listable.limit in omega (arith, length-in_order s.names)) in
    let has : (q : BatchName) → list_any (same_name q) xs ≡ true → set.contains s.names q ≡ true = λ q e. sym (members-in_order name_cmp names_total s.names q) ∙ e in
    let written = each_among IsWritten xs (λ q e. (h.numbered q (has q e), listable.proper q (has q e))) in
    summary_valid s.schema xs h.schema limit listed.ascending written

pub summaries_are_read_again : SummariesAreReadAgain
summaries_are_read_again s h =
    let xs = in_order name_cmp s.names in
    let same = (listed_names s.names).same in
    let read : read_whole summary (summary_bytes s) ≡ Ok (s.schema, xs) = whole_again summary summary_is_lawful (s.schema, xs) (has_summary_valid s h) in
    let made : summary_read (summary_bytes s) ≡ Ok (record { schema = s.schema; names = set.from_list {R = name_cmp} xs }) = rw read refl in
    made ∙ (λ i. Ok (record { schema = s.schema; names = same i }))

-- names of runs are numbered
pub runs_are_numbered : (held : set.FinSet name_cmp) (runs : List Run) → Rises run_shape 0 runs → IsListOf (names_listed runs) held → (q : BatchName) → IsTrue (set.contains held q) → IsNumbered q
unfolding names_in
runs_are_numbered held runs rises listed q has =
    let same : names_in runs ≡ held = listed.same in
    let inside : (is_bounded q && among run_shape runs (spot q)) ≡ true = sym (contains-names_in runs q rises) ∙ ap (λ (s : set.FinSet name_cmp). set.contains s q) same ∙ has in
    let bounded = (and_parts (is_bounded q) (among run_shape runs (spot q)) inside).0 in
    let v = and_parts (ltb q.origin.0 4294967296) (ltb q.number.0 4294967296) bounded in
    record { origin = ltb-true _ _ v.0; number = ltb-true _ _ v.1 }
