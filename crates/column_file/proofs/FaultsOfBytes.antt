-- What reading bytes is refused as is a fault of their format: what a summary may have is proved first, and a container may have it too.
use Rattle.std.proofs.Common.{◌≡◌, ℕ, zero, suc, ◌-◌, ◌/◌, ◌*◌, ◌+◌, ◌&&◌, not, Bool, true, false, cond, ltb, leb, eqb, ℤ, List, [], ◌∷◌, ◌++◌, length, map, take, drop, codes, slice_index_or, Option, Some, Result, Ok, Err, inl, inr, refl, subst}
use Rattle.transpose_order.specs.Mask.{has}
use Rattle.bit_interleave.specs.PackedWords.{PackedWords}
use Rattle.run_dictionary.specs.Runs.{run_of}
use Rattle.table_model.specs.Faults.{GaveMore, CountsReads}
use Rattle.table_model.specs.Name.{is_proper_name}
use Rattle.table_model.specs.Table.{Table, ColumnShape, column_limit}
use Rattle.table_model.specs.declared.schema.ColType.{ColType}
use Rattle.table_model.specs.declared.names.BatchName.{BatchName}
use Rattle.table_model.specs.declared.refusal.Refusal.{Refusal}
use Rattle.table_model.specs.declared.refusal.Refusal.TheVariants.{Memory, ReadFault, BadSchema, BadMagic, BadVersion, BadName, BadOrder, BadCount, BadWidth, BadTag, BadMask, BadDictionary, BadCode, BadRange, Truncated, TrailingBytes, NotCanonical}
use Rattle.segment_core.specs.declared.coding.Coding.{Coding}
use Rattle.segment_core.specs.declared.coding.Coding.TheVariants.{For as ByFrame, Delta as ByDeltas, Runs as ByRuns, Dict as ByDictionary}
use Rattle.segment_core.specs.declared.coded.Coded.{Coded}
use Rattle.segment_core.specs.CodedVector.{VectorForm}
use Rattle.table_model.specs.Reading.{◌>>=◌, Reads}
use Rattle.segment_core.specs.Format.{Format, raw, number, signed, seen, checked, before, optional, read_all, all, constant, read_whole}
use Rattle.table_model.specs.Identifier.{same_text, word_limit}
use Rattle.segment_core.specs.Segment.{vector_count, rows_in, widths_of}
use Rattle.segment_core.specs.VectorBytes.{mask, words, is_null_mask, nulls, coding, is_width, is_count, header, frame, deltas, starts, runs, is_above, dictionary, are_codes_below, codes as packed_codes, dict, payload_of, payload, coded, vector}
use Rattle.segment_core.specs.SegmentBytes.{column as segment_column, columns as segment_columns, batch_columns}
use Rattle.replica_store.specs.Replica.{batch_limit}
use Rattle.column_file.specs.Input.{is_fault_of_summary, is_fault_of_container, is_fault_of_file, unread_or, IsReadWhole, ReadsWhole}
use Rattle.column_file.specs.SchemaBytes.{text, is_name, name, is_type_tag, column_type, is_new, column, column_count, schema}
use Rattle.column_file.specs.SummaryBytes.{is_version, version, has_version, head, any_name, proper_name, is_after, batch_name, name_count, names, summary, summary_read}
use Rattle.column_file.specs.Files.{offer_read}
use Rattle.column_file.specs.ContainerBytes.{row_count, Entry, name_of, batch, batches, Deleted, is_named, is_range, begins_after, range_parts, range, ranges, container}

-- a refusal, if there is one, is one of these faults
abbrev pub Judged : (Refusal → Bool) → {X : Type 0} → Result X Refusal → Type 0
Judged is_fault (Ok x) = Unit {0}
Judged is_fault (Err e) = is_fault e ≡ true

-- so is each refusal of reading a format
abbrev pub Judges : (Refusal → Bool) → {A : Type 0} → Format A → Type 0
Judges is_fault f = (total : ℕ) (bytes : List ℕ) → Judged is_fault (f.read total bytes)

-- ---- the combinators

pub then_judged : (F : Refusal → Bool) {X Y : Type 0} (r : Result X Refusal) (k : X → Result Y Refusal) → Judged F r → ((x : X) → Judged F (k x)) → Judged F (r >>= k)
then_judged F (Ok x) k q h = h x
then_judged F (Err e) k q h = q

guard : (F : Refusal → Bool) {X : Type 0} (b : Bool) (x : X) (e : Refusal) → F e ≡ true → Judged F (cond b (Ok x) (Err e))
guard F true x e h = tt
guard F false x e h = h

short : (F : Refusal → Bool) {X : Type 0} (b : Bool) (e : Refusal) (x : X) → F e ≡ true → Judged F (cond b (Err e) (Ok x))
short F true e x h = h
short F false e x h = tt

pub seen_judges : (F : Refusal → Bool) {A B : Type 0} (f : Format A) (to : A → B) → Judges F f → (total : ℕ) (bytes : List ℕ) → Judged F {X = B × List ℕ} (f.read total bytes >>= λ (x : A × List ℕ). Ok (to x.0, x.1))
seen_judges F {A = A} {B = B} f to q = λ total bytes. then_judged F {Y = B × List ℕ} (f.read total bytes) (λ (x : A × List ℕ). Ok (to x.0, x.1)) (q total bytes) (λ x. tt)

pub checked_judges : (F : Refusal → Bool) {A : Type 0} (f : Format A) (test : A → Bool) (fault : ℕ → Refusal) → ((n : ℕ) → F (fault n) ≡ true) → Judges F f → Judges F (checked f test fault)
checked_judges F {A = A} f test fault h q = λ total bytes. then_judged F (f.read total bytes) (λ (x : A × List ℕ). cond (test x.0) (Ok x) (Err (fault (total - length bytes)))) (q total bytes) (λ x. guard F (test x.0) x (fault (total - length bytes)) (h (total - length bytes)))

pub before_judges : (F : Refusal → Bool) {A B : Type 0} (f : Format A) (g : A → Format B) → Judges F f → ((x : A) → Judges F (g x)) → Judges F (before f g)
before_judges F {A = A} {B = B} f g q r = λ total bytes.
    then_judged F (f.read total bytes) (λ (x : A × List ℕ). (g x.0).read total x.1 >>= λ (y : B × List ℕ). Ok ((x.0, y.0), y.1)) (q total bytes)
    (λ x. then_judged F ((g x.0).read total x.1) (λ (y : B × List ℕ). Ok ((x.0, y.0), y.1)) (r x.0 total x.1) (λ y. tt))

pub optional_judges : (F : Refusal → Bool) {A : Type 0} (flag : Bool) (f : Format A) → Judges F f → Judges F (optional flag f)
optional_judges F true f q = seen_judges F f Some q
optional_judges F false f q = λ total bytes. tt

items_judged : (F : Refusal → Bool) {A : Type 0} (item : List A → Format A) → ((front : List A) → Judges F (item front)) → (n : ℕ) (front : List A) (total : ℕ) (bytes : List ℕ) → Judged F (read_all item n front total bytes)
unfolding read_all
items_judged F item q zero front total bytes = tt
items_judged F {A = A} item q (suc n) front total bytes =
    then_judged F ((item front).read total bytes) (λ (x : A × List ℕ). read_all item n (front ++ x.0 ∷ []) total x.1) (q front total bytes) (λ x. items_judged F item q n (front ++ x.0 ∷ []) total x.1)

pub all_judges : (F : Refusal → Bool) {A : Type 0} (n : ℕ) (item : List A → Format A) → ((front : List A) → Judges F (item front)) → Judges F (all n item)
all_judges F n item q = items_judged F item q n []

-- ---- faults of a summary are faults of a container, and those are faults of a file

wider : (e : Refusal) → is_fault_of_summary e ≡ true → is_fault_of_container e ≡ true
wider (BadWidth at) h = refl
wider (BadTag at) h = refl
wider (BadMask at) h = refl
wider (BadDictionary at) h = refl
wider (BadCode at) h = refl
wider (BadRange at) h = refl
wider other h = h

judged_wider : {X : Type 0} (r : Result X Refusal) → Judged is_fault_of_summary r → Judged is_fault_of_container r
judged_wider (Ok x) q = tt
judged_wider (Err e) q = wider e q

judges_wider : {A : Type 0} (f : Format A) → Judges is_fault_of_summary f → Judges is_fault_of_container f
judges_wider f q = λ total bytes. judged_wider (f.read total bytes) (q total bytes)

widest : (e : Refusal) → is_fault_of_container e ≡ true → is_fault_of_file e ≡ true
widest (NotCanonical at) h = refl
widest other h = h

pub judged_widest : {X : Type 0} (r : Result X Refusal) → Judged is_fault_of_container r → Judged is_fault_of_file r
judged_widest (Ok x) q = tt
judged_widest (Err e) q = widest e q

-- ---- numbers, masks and words

pub raw_judges : (n : ℕ) → Judges is_fault_of_summary (raw n)
raw_judges n = λ total bytes. short is_fault_of_summary (ltb (length bytes) n) (Truncated total) (take n bytes, drop n bytes) refl

pub number_judges : (n : ℕ) → Judges is_fault_of_summary (number n)
number_judges n = λ total bytes. then_judged is_fault_of_summary ((raw n).read total bytes) _ (raw_judges n total bytes) (λ x. tt)

raw_fits : (n : ℕ) → Judges is_fault_of_container (raw n)
raw_fits n = judges_wider (raw n) (raw_judges n)

number_fits : (n : ℕ) → Judges is_fault_of_container (number n)
number_fits n = judges_wider (number n) (number_judges n)

signed_judges : (t : ℕ) → Judges is_fault_of_container (signed t)
signed_judges t = λ total bytes. then_judged is_fault_of_container ((number (t / 8)).read total bytes) _ (number_fits (t / 8) total bytes) (λ x. tt)

mask_judges : Judges is_fault_of_container mask
unfolding mask
mask_judges = λ total bytes. then_judged is_fault_of_container ((raw 128).read total bytes) _ (raw_fits 128 total bytes) (λ x. tt)

words_judges : (t w : ℕ) → Judges is_fault_of_container (words t w)
unfolding words
words_judges t w = λ total bytes. then_judged is_fault_of_container ((raw (128 * w)).read total bytes) _ (raw_fits (128 * w) total bytes) (λ x. tt)

-- ---- vectors

nulls_judges : (rows : ℕ) → Judges is_fault_of_container (nulls rows)
unfolding nulls
nulls_judges rows =
    let flag = checked (number 1) (λ (n : ℕ). leb n 1) BadMask in
    let found = checked mask (is_null_mask rows) BadMask in
    let rest : ℕ → Format (Option (List Bool)) = λ n. optional (eqb n 1) found in
    let q = before_judges is_fault_of_container flag rest (checked_judges is_fault_of_container (number 1) (λ (n : ℕ). leb n 1) BadMask (λ n. refl) (number_fits 1)) (λ n. optional_judges is_fault_of_container (eqb n 1) found (checked_judges is_fault_of_container mask (is_null_mask rows) BadMask (λ n. refl) mask_judges)) in
    λ total bytes. then_judged is_fault_of_container ((before flag rest).read total bytes) _ (q total bytes) (λ x. tt)

coding_judges : Judges is_fault_of_container coding
unfolding coding
coding_judges =
    let tag = checked (number 1) (λ (n : ℕ). leb n 3) BadTag in
    let q = checked_judges is_fault_of_container (number 1) (λ (n : ℕ). leb n 3) BadTag (λ n. refl) (number_fits 1) in
    λ total bytes. then_judged is_fault_of_container (tag.read total bytes) _ (q total bytes) (λ x. tt)

header_judges : (t : ℕ) → Judges is_fault_of_container (header t)
unfolding header
header_judges t =
    let counts : Coding → Format ℕ = λ c. checked (number 2) (is_count c) BadCount in
    let widths : Coding → Format ℕ = λ c. checked (number 1) (is_width t c) BadWidth in
    let rest : Coding → Format (ℕ × ℕ) = λ c. before (widths c) (λ _. counts c) in
    let q = before_judges is_fault_of_container coding rest coding_judges (λ c. before_judges is_fault_of_container (widths c) (λ _. counts c) (checked_judges is_fault_of_container (number 1) (is_width t c) BadWidth (λ n. refl) (number_fits 1)) (λ _. checked_judges is_fault_of_container (number 2) (is_count c) BadCount (λ n. refl) (number_fits 2))) in
    λ total bytes. then_judged is_fault_of_container ((before coding rest).read total bytes) _ (q total bytes) (λ x. tt)

frame_judges : (t w : ℕ) → Judges is_fault_of_container (frame t w)
unfolding frame
frame_judges t w =
    let rest : ℤ → Format PackedWords = λ _. words t w in
    let q = before_judges is_fault_of_container (signed t) rest (signed_judges t) (λ _. words_judges t w) in
    λ total bytes. then_judged is_fault_of_container ((before (signed t) rest).read total bytes) _ (q total bytes) (λ x. tt)

deltas_judges : (t w : ℕ) → Judges is_fault_of_container (deltas t w)
unfolding deltas
deltas_judges t w =
    let bases : Format (List ℤ) = all (1024 / t) (λ _. signed t) in
    let rest : ℤ → Format (List ℤ × PackedWords) = λ _. before bases (λ _. words t w) in
    let q = before_judges is_fault_of_container (signed t) rest (signed_judges t) (λ _. before_judges is_fault_of_container bases (λ _. words t w) (all_judges is_fault_of_container (1024 / t) (λ _. signed t) (λ _. signed_judges t)) (λ _. words_judges t w)) in
    λ total bytes. then_judged is_fault_of_container ((before (signed t) rest).read total bytes) _ (q total bytes) (λ x. tt)

starts_judges : (count : ℕ) → Judges is_fault_of_container (starts count)
unfolding starts
starts_judges count =
    let first = checked mask (λ (rows : List Bool). not (has rows 0)) BadMask in
    checked_judges is_fault_of_container first (λ (rows : List Bool). eqb (run_of rows 1023 + 1) count) (λ at. BadCount (at - 2)) (λ n. refl) (checked_judges is_fault_of_container mask (λ (rows : List Bool). not (has rows 0)) BadMask (λ n. refl) mask_judges)

runs_judges : (t count : ℕ) → Judges is_fault_of_container (runs t count)
unfolding runs
runs_judges t count =
    let rest : List Bool → Format (List ℤ) = λ _. all count (λ _. signed t) in
    let q = before_judges is_fault_of_container (starts count) rest (starts_judges count) (λ _. all_judges is_fault_of_container count (λ _. signed t) (λ _. signed_judges t)) in
    λ total bytes. then_judged is_fault_of_container ((before (starts count) rest).read total bytes) _ (q total bytes) (λ x. tt)

dictionary_judges : (t count : ℕ) → Judges is_fault_of_container (dictionary t count)
unfolding dictionary
dictionary_judges t count =
    all_judges is_fault_of_container count (λ (front : List ℤ). checked (signed t) (is_above front) BadDictionary) (λ front. checked_judges is_fault_of_container (signed t) (is_above front) BadDictionary (λ n. refl) (signed_judges t))

codes_judges : (w count : ℕ) → Judges is_fault_of_container (packed_codes w count)
unfolding packed_codes
codes_judges w count = checked_judges is_fault_of_container (words 16 w) (are_codes_below w count) BadCode (λ n. refl) (words_judges 16 w)

dict_judges : (t w count : ℕ) → Judges is_fault_of_container (dict t w count)
unfolding dict
dict_judges t w count =
    let rest : List ℤ → Format PackedWords = λ _. packed_codes w count in
    let q = before_judges is_fault_of_container (dictionary t count) rest (dictionary_judges t count) (λ _. codes_judges w count) in
    λ total bytes. then_judged is_fault_of_container ((before (dictionary t count) rest).read total bytes) _ (q total bytes) (λ x. tt)

payload_judges : (t : ℕ) (c : Coding) (w count : ℕ) → Judges is_fault_of_container (payload_of t c w count)
payload_judges t ByFrame w count = λ total bytes. then_judged is_fault_of_container ((frame t w).read total bytes) _ (frame_judges t w total bytes) (λ x. tt)
payload_judges t ByDeltas w count = λ total bytes. then_judged is_fault_of_container ((deltas t w).read total bytes) _ (deltas_judges t w total bytes) (λ x. tt)
payload_judges t ByRuns w count = λ total bytes. then_judged is_fault_of_container ((runs t count).read total bytes) _ (runs_judges t count total bytes) (λ x. tt)
payload_judges t ByDictionary w count = λ total bytes. then_judged is_fault_of_container ((dict t w count).read total bytes) _ (dict_judges t w count total bytes) (λ x. tt)

coded_judges : (t : ℕ) → Judges is_fault_of_container (coded t)
unfolding coded
coded_judges t =
    let q = before_judges is_fault_of_container (header t) (payload t) (header_judges t) (λ h. payload_judges t h.coding h.width h.count) in
    λ total bytes. then_judged is_fault_of_container ((before (header t) (payload t)).read total bytes) _ (q total bytes) (λ x. tt)

vector_judges : (t rows : ℕ) → Judges is_fault_of_container (vector t rows)
unfolding vector
vector_judges t rows =
    let rest : Option (List Bool) → Format Coded = λ _. coded t in
    let q = before_judges is_fault_of_container (nulls rows) rest (nulls_judges rows) (λ _. coded_judges t) in
    λ total bytes. then_judged is_fault_of_container ((before (nulls rows) rest).read total bytes) _ (q total bytes) (λ x. tt)

segment_column_judges : (t rows : ℕ) → Judges is_fault_of_container (segment_column t rows)
unfolding segment_column
segment_column_judges t rows = all_judges is_fault_of_container (vector_count rows) (λ (front : List VectorForm). vector t (rows_in rows (length front))) (λ front. vector_judges t (rows_in rows (length front)))

segment_columns_judges : (widths : List ℕ) (rows : ℕ) → Judges is_fault_of_container (segment_columns widths rows)
unfolding segment_columns
segment_columns_judges widths rows =
    all_judges is_fault_of_container (length widths) (λ (front : List (List VectorForm)). segment_column (slice_index_or widths (length front) 0) rows) (λ front. segment_column_judges (slice_index_or widths (length front) 0) rows)

-- ---- schemas

text_judges : Judges is_fault_of_summary text
unfolding text
text_judges =
    let size = checked (number 1) (λ (n : ℕ). leb 1 n && leb n word_limit) (λ _. BadSchema) in
    let q = before_judges is_fault_of_summary size raw (checked_judges is_fault_of_summary (number 1) (λ (n : ℕ). leb 1 n && leb n word_limit) (λ _. BadSchema) (λ n. refl) (number_judges 1)) raw_judges in
    λ total bytes. then_judged is_fault_of_summary ((before size raw).read total bytes) _ (q total bytes) (λ x. tt)

name_judges : Judges is_fault_of_summary name
unfolding name
name_judges = checked_judges is_fault_of_summary text is_name (λ _. BadSchema) (λ n. refl) text_judges

column_type_judges : (version : ℕ) → Judges is_fault_of_summary (column_type version)
unfolding column_type
column_type_judges version =
    let tag = checked (number 1) (is_type_tag version) (λ _. BadSchema) in
    let q = checked_judges is_fault_of_summary (number 1) (is_type_tag version) (λ _. BadSchema) (λ n. refl) (number_judges 1) in
    λ total bytes. then_judged is_fault_of_summary (tag.read total bytes) _ (q total bytes) (λ x. tt)

column_judges : (version : ℕ) (front : List ColumnShape) → Judges is_fault_of_summary (column version front)
unfolding column
column_judges version front =
    let parts : Format (ColType × List ℕ) = before (column_type version) (λ _. name) in
    let made : ColType × List ℕ → ColumnShape = λ p. record { name = p.1; column_type = p.0 } in
    let shape = seen parts made (λ c. Some (c.column_type, c.name)) in
    checked_judges is_fault_of_summary shape (is_new front) (λ _. BadSchema) (λ n. refl) (seen_judges is_fault_of_summary parts made (before_judges is_fault_of_summary (column_type version) (λ _. name) (column_type_judges version) (λ _. name_judges)))

column_count_judges : Judges is_fault_of_summary column_count
unfolding column_count
column_count_judges = checked_judges is_fault_of_summary (number 2) (λ (n : ℕ). leb 1 n && leb n column_limit) BadCount (λ n. refl) (number_judges 2)

schema_judges : (version : ℕ) → Judges is_fault_of_summary (schema version)
unfolding schema
schema_judges version =
    let rest : ℕ → Format (List ℕ × List ColumnShape) = λ n. before name (λ _. all n (column version)) in
    let q = before_judges is_fault_of_summary column_count rest column_count_judges (λ n. before_judges is_fault_of_summary name (λ _. all n (column version)) name_judges (λ _. all_judges is_fault_of_summary n (column version) (column_judges version))) in
    λ total bytes. then_judged is_fault_of_summary ((before column_count rest).read total bytes) _ (q total bytes) (λ x. tt)

-- ---- summaries

version_judges : Judges is_fault_of_summary version
unfolding version
version_judges = checked_judges is_fault_of_summary (number 2) is_version (λ _. BadVersion) (λ n. refl) (number_judges 2)

pub head_judges : (magic : List ℕ) → Judges is_fault_of_summary (head magic)
unfolding head
head_judges magic =
    let first = constant magic BadMagic in
    let rest : List ℕ → Format (ℕ × Table) = λ _. before version schema in
    let parts = before first rest in
    let q = before_judges is_fault_of_summary first rest (checked_judges is_fault_of_summary (raw (length magic)) (same_text magic) (λ _. BadMagic) (λ n. refl) (raw_judges (length magic))) (λ _. before_judges is_fault_of_summary version schema version_judges schema_judges) in
    let r = checked_judges is_fault_of_summary parts has_version (λ _. BadVersion) (λ n. refl) q in
    λ total bytes. then_judged is_fault_of_summary ((checked parts has_version (λ _. BadVersion)).read total bytes) _ (r total bytes) (λ x. tt)

any_name_judges : Judges is_fault_of_summary any_name
unfolding any_name
any_name_judges =
    let parts : Format (ℕ × ℕ) = before (number 4) (λ _. number 4) in
    let q = before_judges is_fault_of_summary (number 4) (λ _. number 4) (number_judges 4) (λ _. number_judges 4) in
    λ total bytes. then_judged is_fault_of_summary (parts.read total bytes) _ (q total bytes) (λ x. tt)

batch_name_judges : (front : List BatchName) → Judges is_fault_of_summary (batch_name front)
unfolding batch_name proper_name
batch_name_judges front =
    let proper = checked any_name is_proper_name (λ _. BadName) in
    checked_judges is_fault_of_summary proper (is_after front) BadOrder (λ n. refl) (checked_judges is_fault_of_summary any_name is_proper_name (λ _. BadName) (λ n. refl) any_name_judges)

name_count_judges : Judges is_fault_of_summary name_count
unfolding name_count
name_count_judges = checked_judges is_fault_of_summary (number 4) (λ (n : ℕ). leb n batch_limit) BadCount (λ n. refl) (number_judges 4)

names_judges : Judges is_fault_of_summary names
unfolding names
names_judges =
    let rest : ℕ → Format (List BatchName) = λ n. all n batch_name in
    let q = before_judges is_fault_of_summary name_count rest name_count_judges (λ n. all_judges is_fault_of_summary n batch_name batch_name_judges) in
    λ total bytes. then_judged is_fault_of_summary ((before name_count rest).read total bytes) _ (q total bytes) (λ x. tt)

summary_judges : Judges is_fault_of_summary summary
unfolding summary
summary_judges = before_judges is_fault_of_summary (head (codes "FLSM")) (λ _. names) (head_judges (codes "FLSM")) (λ _. names_judges)

-- ---- containers

row_count_judges : Judges is_fault_of_container row_count
unfolding row_count
row_count_judges = λ total bytes. then_judged is_fault_of_container ((number 2).read total bytes) _ (number_fits 2 total bytes) (λ x. tt)

batch_judges : (table : Table) (front : List Entry) → Judges is_fault_of_container (batch table front)
unfolding batch
batch_judges table front =
    let named = batch_name (map name_of front) in
    let rest : BatchName → Format (ℕ × List (List VectorForm)) = λ _. before row_count (batch_columns table) in
    before_judges is_fault_of_container named rest (judges_wider named (batch_name_judges (map name_of front))) (λ _. before_judges is_fault_of_container row_count (batch_columns table) row_count_judges (λ rows. segment_columns_judges (widths_of table) rows))

batches_judges : (table : Table) → Judges is_fault_of_container (batches table)
unfolding batches
batches_judges table =
    let rest : ℕ → Format (List Entry) = λ n. all n (batch table) in
    let q = before_judges is_fault_of_container name_count rest (judges_wider name_count name_count_judges) (λ n. all_judges is_fault_of_container n (batch table) (batch_judges table)) in
    λ total bytes. then_judged is_fault_of_container ((before name_count rest).read total bytes) _ (q total bytes) (λ x. tt)

range_parts_judges : Judges is_fault_of_container range_parts
unfolding range_parts
range_parts_judges =
    let rest : BatchName → Format (ℕ × ℕ) = λ _. before (number 2) (λ _. number 2) in
    before_judges is_fault_of_container any_name rest (judges_wider any_name any_name_judges) (λ _. before_judges is_fault_of_container (number 2) (λ _. number 2) (number_fits 2) (λ _. number_fits 2))

range_judges : (front : List Deleted) → Judges is_fault_of_container (range front)
unfolding range
range_judges front =
    let named = checked range_parts is_named (λ _. BadName) in
    let ordered = checked named is_range BadRange in
    checked_judges is_fault_of_container ordered (begins_after front) BadOrder (λ n. refl) (checked_judges is_fault_of_container named is_range BadRange (λ n. refl) (checked_judges is_fault_of_container range_parts is_named (λ _. BadName) (λ n. refl) range_parts_judges))

ranges_judges : Judges is_fault_of_container ranges
unfolding ranges
ranges_judges =
    let rest : ℕ → Format (List Deleted) = λ n. all n range in
    let q = before_judges is_fault_of_container (number 8) rest (number_fits 8) (λ n. all_judges is_fault_of_container n range range_judges) in
    λ total bytes. then_judged is_fault_of_container ((before (number 8) rest).read total bytes) _ (q total bytes) (λ x. tt)

container_judges : Judges is_fault_of_container container
unfolding container
container_judges =
    let rest : Table → Format (List Entry × List Deleted) = λ table. before (batches table) (λ _. ranges) in
    before_judges is_fault_of_container (head (codes "FLCF")) rest (judges_wider (head (codes "FLCF")) (head_judges (codes "FLCF"))) (λ table. before_judges is_fault_of_container (batches table) (λ _. ranges) (batches_judges table) (λ _. ranges_judges))

-- ---- whole inputs

pub whole_judged : (F : Refusal → Bool) {A : Type 0} (f : Format A) → ((n : ℕ) → F (TrailingBytes n) ≡ true) → Judges F f → (bytes : List ℕ) → Judged F (read_whole f bytes)
whole_judged F {A = A} f trailing q bytes =
    then_judged F (f.read (length bytes) bytes) (λ (x : A × List ℕ). cond (eqb (length x.1) 0) (Ok x.0) (Err (TrailingBytes (length bytes - length x.1)))) (q (length bytes) bytes)
    (λ x. guard F (eqb (length x.1) 0) x.0 (TrailingBytes (length bytes - length x.1)) (trailing (length bytes - length x.1)))

pub summary_read_judged : (bytes : List ℕ) → Judged is_fault_of_summary (summary_read bytes)
summary_read_judged bytes = then_judged is_fault_of_summary (read_whole summary bytes) _ (whole_judged is_fault_of_summary summary (λ n. refl) summary_judges bytes) (λ x. tt)

pub offer_read_judged : (bytes : List ℕ) → Judged is_fault_of_container (offer_read bytes)
offer_read_judged bytes = then_judged is_fault_of_container (read_whole container bytes) _ (whole_judged is_fault_of_container container (λ n. refl) container_judges bytes) (λ x. tt)

-- ---- what a call is refused as

-- a refusal that is no want of memory is one of these faults
abbrev IsFault : (Refusal → Bool) → Refusal → Type 0
IsFault F e = ((e ≡ Memory) → ⊥) → F e ≡ true

fault_of : (F : Refusal → Bool) {X Y : Type 0} (view : X → Y) (e : Refusal) (meaning : Result Y Refusal) → Reads {X = X} view (Err e) meaning → Judged F meaning → IsFault F e
fault_of F {Y = Y} view e meaning (inl same) judged not_memory = let P : Result Y Refusal → Type 0 = λ r. Judged F r in subst P same judged
fault_of F view e meaning (inr memory) judged not_memory = absurd (not_memory memory)

counts : (F : Refusal → Bool) (many : Type 0) (e : Refusal) (before after : ℕ) → F ReadFault ≡ false → IsFault F e → after ≡ before → CountsReads many e before after
counts F many ReadFault before after none h same = let wrong : F ReadFault ≡ true = h (λ is. cc) in absurd cc
counts F many other before after none h same = same

listed : (F : Refusal → Bool) (e : Refusal) → IsFault F e → unread_or F e ≡ true
listed F Memory h = refl
listed F ReadFault h = refl
listed F other h = h (λ is. cc)

-- a call that read its input whole and judged it counted no failure, and is refused as a call that reads such bytes may be
pub reads_judged : {D X Y : Type 0} (remaining : D → Option (List ℕ)) (F : Refusal → Bool) (view : X → Y) (old new : D × ℕ) (result : Result X Refusal) (meaning : Result Y Refusal)
    → F ReadFault ≡ false → IsReadWhole remaining old new → Reads view result meaning → Judged F meaning → ReadsWhole remaining (unread_or F) old new result
reads_judged remaining F view old new (Ok x) meaning none whole reads judged = whole
reads_judged remaining F view old new (Err e) meaning none whole reads judged =
    let fault = fault_of F view e meaning reads judged in
    record {
      listed = listed F e fault;
      whole = λ not_memory not_fault. (whole.within, whole.end);
      counts = counts F (GaveMore (remaining old.0) (remaining new.0)) e old.1 new.1 none fault whole.kept;
    }
