-- Version 1 accepted what it wrote: its formats are lawful, and what has bytes in this version, without a column of 8 bits and with as few
-- batches, had bytes in version 1.
use Rattle.std.proofs.Common.{◌≡◌, ℕ, ◌≤◌, ◌&&◌, true, false, eqb, leb, List, [], ◌++◌, length, map, codes, Some, Result, Ok, refl, sym, ap, subst, ◌∙◌, arith, lit<}
use Rattle.std.specs.FinMap as finite
use Rattle.std.specs.FinMap.Entries.{is_sorted}
use Rattle.std.proofs.lemmas.Bool.{and_parts, and_from, eqb-true, le-leb}
use Rattle.std.proofs.lemmas.List.{length-map}
use Rattle.std.proofs.lemmas.List.Elements.{recursion_from_All}
use Rattle.table_model.specs.Identifier.{same_text}
use Rattle.table_model.specs.Name.{name_cmp}
use Rattle.table_model.specs.Reading.{◌>>=◌}
use Rattle.table_model.specs.Table.{Table, IsTable}
use Rattle.table_model.specs.declared.names.BatchName.{BatchName}
use Rattle.table_model.specs.declared.refusal.Refusal.{Refusal}
use Rattle.table_model.specs.declared.refusal.Refusal.TheVariants.{BadCount, BadMagic, BadVersion}
use Rattle.table_model.proofs.Passed.{true_from_T}
use Rattle.table_model.proofs.SameTable.{one_text}
use Rattle.catalogue_join.specs.RowRange.{RowRange}
use Rattle.segment_core.specs.Format.{Format, IsLawful, raw, number, before, constant, valid_all, read_whole}
use Rattle.segment_core.proofs.FormatLaws.{raw_is_lawful, seen_is_lawful, checked_is_lawful, before_is_lawful, ok_is}
use Rattle.segment_core.proofs.NumberLaws.{number_is_lawful, number_is_valid}
use Rattle.segment_core.proofs.VectorLaws.{some_is}
use Rattle.replica_store.specs.Exchange.{OfferForm}
use Rattle.replica_store.specs.Replica.{batch_limit}
use Rattle.column_file.specs.Ordered.{in_order}
use Rattle.column_file.specs.SchemaBytes.{schema, has_tiny, version_of}
use Rattle.column_file.specs.SummaryBytes.{head, batch_name, name_count, names, summary, summary_listed, summary_read}
use Rattle.column_file.specs.ContainerBytes.{Entry, entry_of, batch, batches, Deleted, deleted_of, ranges, container}
use Rattle.column_file.specs.Files.{canonical_entry, judged, offer_held, offer_read, canonical_read, HasBatchBytes}
use Rattle.column_file.specs.FirstVersion.{batch_limit_1, schema_1, is_version_1, version_1, head_1, is_count_1, name_count_1, names_1, summary_1, batches_1, container_1, offer_read_1, summary_read_1, file_of_1, canonical_file_1, judged_1, canonical_read_1, offer_bytes_1, summary_bytes_1, FirstFilesComeBack, FirstOffersComeBack, FirstSummariesComeBack}
use Rattle.column_file.proofs.ContainerLaws.{batch_is_lawful, ranges_is_lawful, counted_is_lawful}
use Rattle.column_file.proofs.FileLaws.{container_valid, file_valid, files_open, offers_are_read_again, whole_again}
use Rattle.column_file.proofs.FirstLaws.{same_schema, head_stays, file_stays, first_files_stay, first_offers_are_read, first_summaries_are_read, judged_alike}
use Rattle.column_file.proofs.OrderedLists.{length-in_order}
use Rattle.column_file.proofs.RangeLists.{ranges_are}
use Rattle.column_file.proofs.SchemaLaws.{schema_is_lawful}
use Rattle.column_file.proofs.SchemaWriting.{table_is_valid}
use Rattle.column_file.proofs.SummaryAgain.{has_summary_valid, summaries_are_read_again}
use Rattle.column_file.proofs.SummaryLaws.{batch_name_is_lawful}

-- ---- its formats are lawful

schema_1_is_lawful : IsLawful schema_1
schema_1_is_lawful = subst (λ (f : Format Table). IsLawful f) same_schema (schema_is_lawful 1)

version_1_is_lawful : IsLawful version_1
unfolding version_1
version_1_is_lawful = checked_is_lawful (number 2) is_version_1 (λ _. BadVersion) (number_is_lawful 2)

version_1_only : (n : ℕ) → version_1.valid n ≡ true → n ≡ 1
unfolding version_1
version_1_only n valid = eqb-true n 1 (and_parts ((number 2).valid n) (is_version_1 n) valid).1

head_1_is_lawful : (magic : List ℕ) → IsLawful (head_1 magic)
unfolding head_1
head_1_is_lawful magic =
    let first = constant magic BadMagic in
    let rest : List ℕ → Format (ℕ × Table) = λ _. before version_1 (λ _. schema_1) in
    let made : List ℕ × (ℕ × Table) → Table = λ p. p.1.1 in
    seen_is_lawful (before first rest) made (λ t. Some (magic, (1, t)))
    (before_is_lawful first rest (checked_is_lawful (raw (length magic)) (same_text magic) (λ _. BadMagic) (raw_is_lawful (length magic))) (λ x valid. before_is_lawful version_1 (λ _. schema_1) version_1_is_lawful (λ n v. schema_1_is_lawful)))
    (λ p valid.
    let v = and_parts (first.valid p.0) ((rest p.0).valid p.1) valid in
    let same : magic ≡ p.0 = one_text magic p.0 (and_parts ((raw (length magic)).valid p.0) (same_text magic p.0) v.0).1 in
    let one : p.1.0 ≡ 1 = version_1_only p.1.0 (and_parts (version_1.valid p.1.0) (schema_1.valid p.1.1) v.1).0 in
    λ i. Some (same i, (sym one i, p.1.1)))
    (λ p t e. sym (ap made (some_is {A = List ℕ × (ℕ × Table)} (magic, (1, t)) p e)))

name_count_1_is_lawful : IsLawful name_count_1
unfolding name_count_1
name_count_1_is_lawful = checked_is_lawful (number 4) is_count_1 BadCount (number_is_lawful 4)

batches_1_is_lawful : (table : Table) → IsLawful (batches_1 table)
unfolding batches_1
batches_1_is_lawful table = counted_is_lawful name_count_1 (batch table) name_count_1_is_lawful (batch_is_lawful table)

container_1_is_lawful : IsLawful container_1
unfolding container_1
container_1_is_lawful =
    let rest : Table → Format (List Entry × List Deleted) = λ table. before (batches_1 table) (λ _. ranges) in
    before_is_lawful (head_1 (codes "FLCF")) rest (head_1_is_lawful (codes "FLCF")) (λ t valid. before_is_lawful (batches_1 t) (λ _. ranges) (batches_1_is_lawful t) (λ found v. ranges_is_lawful))

names_1_is_lawful : IsLawful names_1
unfolding names_1
names_1_is_lawful = counted_is_lawful name_count_1 batch_name name_count_1_is_lawful batch_name_is_lawful

summary_1_is_lawful : IsLawful summary_1
unfolding summary_1
summary_1_is_lawful = before_is_lawful (head_1 (codes "FLSM")) (λ _. names_1) (head_1_is_lawful (codes "FLSM")) (λ t valid. names_1_is_lawful)

-- ---- what has bytes in it

schema_1_valid : (t : Table) → IsTable t → has_tiny t ≡ false → schema_1.valid t ≡ true
schema_1_valid t table none =
    let first : version_of t ≡ 1 = rw none refl in
    ap (λ (f : Format Table). f.valid t) (sym same_schema) ∙ ap (λ (v : ℕ). (schema v).valid t) (sym first) ∙ table_is_valid t table

head_1_valid : (magic : List ℕ) (t : Table) → (constant magic BadMagic).valid magic ≡ true → IsTable t → has_tiny t ≡ false → (head_1 magic).valid t ≡ true
unfolding head_1 version_1
head_1_valid magic t first table none =
    let version = and_from ((number 2).valid 1) (is_version_1 1) (number_is_valid 2 1 (lit< tt)) refl in
    and_from ((constant magic BadMagic).valid magic) (((number 2).valid 1 && is_version_1 1) && schema_1.valid t) first (and_from ((number 2).valid 1 && is_version_1 1) (schema_1.valid t) version (schema_1_valid t table none))

-- a number within the first limit
count_1_valid : (n : ℕ) → n ≤ batch_limit_1 → name_count.valid n ≡ true → name_count_1.valid n ≡ true
unfolding name_count name_count_1
count_1_valid n few valid =
    let v = and_parts ((number 4).valid n) (leb n batch_limit) valid in
    and_from ((number 4).valid n) (is_count_1 n) v.0 (le-leb n batch_limit_1 few)

batches_1_valid : (t : Table) (items : List Entry) → length items ≤ batch_limit_1 → (batches t).valid items ≡ true → (batches_1 t).valid items ≡ true
unfolding batches batches_1
batches_1_valid t items few valid =
    let n = length items in
    let listed = eqb n n && valid_all (batch t) [] items in
    let v = and_parts (name_count.valid n) listed valid in
    and_from (name_count_1.valid n) listed (count_1_valid n few v.0) v.1

names_1_valid : (found : List BatchName) → length found ≤ batch_limit_1 → names.valid found ≡ true → names_1.valid found ≡ true
unfolding names names_1
names_1_valid found few valid =
    let n = length found in
    let listed = eqb n n && valid_all batch_name [] found in
    let v = and_parts (name_count.valid n) listed valid in
    and_from (name_count_1.valid n) listed (count_1_valid n few v.0) v.1

container_1_valid : (t : Table) (items : List Entry) (ds : List Deleted) → IsTable t → has_tiny t ≡ false → length items ≤ batch_limit_1 → container.valid (t, (items, ds)) ≡ true → container_1.valid (t, (items, ds)) ≡ true
unfolding container container_1
container_1_valid t items ds table none few valid =
    let v = and_parts ((head (codes "FLCF")).valid t) ((batches t).valid items && ranges.valid ds) valid in
    let w = and_parts ((batches t).valid items) (ranges.valid ds) v.1 in
    and_from ((head_1 (codes "FLCF")).valid t) ((batches_1 t).valid items && ranges.valid ds) (head_1_valid (codes "FLCF") t refl table none)
    (and_from ((batches_1 t).valid items) (ranges.valid ds) (batches_1_valid t items few w.0) w.1)

summary_1_valid : (t : Table) (found : List BatchName) → IsTable t → has_tiny t ≡ false → length found ≤ batch_limit_1 → summary.valid (t, found) ≡ true → summary_1.valid (t, found) ≡ true
unfolding summary summary_1
summary_1_valid t found table none few valid =
    let v = and_parts ((head (codes "FLSM")).valid t) (names.valid found) valid in
    and_from ((head_1 (codes "FLSM")).valid t) (names_1.valid found) (head_1_valid (codes "FLSM") t refl table none) (names_1_valid found few v.1)

-- ---- files

abbrev Parsed : Type 0
Parsed = Table × (List Entry × List Deleted)

-- a container that has bytes in version 1 is read as the offer that it holds
container_1_read : (c : Parsed) → container_1.valid c ≡ true → offer_read_1 (container_1.spell c) ≡ Ok (offer_held c)
container_1_read c valid = rw (whole_again container_1 container_1_is_lawful c valid) refl

pub first_files_come_back : FirstFilesComeBack
unfolding file_of_1
first_files_come_back t state h =
    let file = h.file in
    let es = finite.entries state.batches in
    let held = map (canonical_entry t) es in
    let items = map entry_of held in
    let rs = file.ranges in
    let c : Parsed = (t, (items, map deleted_of rs)) in
    let bytes = canonical_file_1 t state in
    let spelled : bytes ≡ container_1.spell c = ap (λ (xs : List RowRange). container_1.spell (t, (items, map deleted_of xs))) (ranges_are rs state.deleted file.maximal file.rows) in
    let few : length items ≤ batch_limit_1 = (let f = h.few in omega (arith, finite.len-entries state.batches, length-map es (canonical_entry t), length-map held entry_of)) in
    let valid = container_1_valid t items (map deleted_of rs) file.schema h.wide few (file_valid t state file) in
    let offered : offer_read_1 bytes ≡ Ok (offer_held c) = ap offer_read_1 spelled ∙ container_1_read c valid in
    let opens = files_open t state file in
    let now : canonical_read bytes ≡ Ok opens.0 = ap canonical_read (sym (first_files_stay t state h.wide)) ∙ opens.1 in
    let was : canonical_read_1 bytes ≡ judged_1 bytes (offer_held c) = ap (λ (r : Result OfferForm Refusal). r >>= judged_1 bytes) offered in
    let is : canonical_read bytes ≡ judged bytes (offer_held c) = ap (λ (r : Result OfferForm Refusal). r >>= judged bytes) (first_offers_are_read bytes (offer_held c) offered) in
    (opens.0, was ∙ sym (judged_alike bytes (offer_held c) h.wide) ∙ sym is ∙ now, opens.2, opens.3, opens.4)

-- ---- offers and summaries

-- what was read of bytes is one
one_read : {A : Type 0} (x y : A) (r : Result A Refusal) → r ≡ Ok x → r ≡ Ok y → x ≡ y
one_read x y r first second = ok_is x y (sym first ∙ second)

pub first_offers_come_back : FirstOffersComeBack
unfolding file_of_1
first_offers_come_back o h =
    let b = h.bytes in
    let t = o.schema in
    let held = finite.entries o.segments in
    let items = map entry_of held in
    let rs = b.ranges in
    let offered = b.offered in
    let c : Parsed = (t, (items, map deleted_of rs)) in
    let bytes = offer_bytes_1 o in
    let spelled : bytes ≡ container_1.spell c = ap (λ (xs : List RowRange). container_1.spell (t, (items, map deleted_of xs))) (ranges_are rs o.state.deleted b.maximal b.deleted) in
    let few : length items ≤ batch_limit_1 = (let f = h.few in omega (arith, finite.len-entries o.segments, length-map held entry_of)) in
    let now = container_valid t held rs b.schema (recursion_from_All (HasBatchBytes t) held b.batches) offered.limit (true_from_T (is_sorted name_cmp held) offered.sorted) b.maximal b.count in
    let read : offer_read_1 bytes ≡ Ok (offer_held c) = ap offer_read_1 spelled ∙ container_1_read c (container_1_valid t items (map deleted_of rs) b.schema h.wide few now) in
    let again : offer_read bytes ≡ Ok o = ap offer_read (sym (file_stays t held o.state.deleted h.wide)) ∙ offers_are_read_again o b in
    read ∙ ap Ok (one_read (offer_held c) o (offer_read bytes) (first_offers_are_read bytes (offer_held c) read) again)

names_stay : (found : List BatchName) → names.spell found ≡ names_1.spell found
unfolding names names_1 name_count name_count_1
names_stay found = refl

summary_stays : (t : Table) (found : List BatchName) → has_tiny t ≡ false → summary.spell (t, found) ≡ summary_1.spell (t, found)
unfolding summary summary_1
summary_stays t found none = λ i. head_stays (codes "FLSM") t none i ++ names_stay found i

pub first_summaries_come_back : FirstSummariesComeBack
first_summaries_come_back s h =
    let b = h.bytes in
    let found = in_order name_cmp s.names in
    let bytes = summary_bytes_1 s in
    let few : length found ≤ batch_limit_1 = (let f = h.few in omega (arith, length-in_order s.names)) in
    let whole : read_whole summary_1 bytes ≡ Ok (s.schema, found) = whole_again summary_1 summary_1_is_lawful (s.schema, found) (summary_1_valid s.schema found b.schema h.wide few (has_summary_valid s b)) in
    let read : summary_read_1 bytes ≡ Ok (summary_listed (s.schema, found)) = rw whole refl in
    let again : summary_read bytes ≡ Ok s = ap summary_read (sym (summary_stays s.schema found h.wide)) ∙ summaries_are_read_again s b in
    read ∙ ap Ok (one_read (summary_listed (s.schema, found)) s (summary_read bytes) (first_summaries_are_read bytes (summary_listed (s.schema, found)) read) again)
