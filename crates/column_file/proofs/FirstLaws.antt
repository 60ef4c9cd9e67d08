-- What version 1 read is read as the same, and what had no column of 8 bits has the same bytes.
use Rattle.std.proofs.Common.{◌≡◌, ℕ, zero, suc, ◌<◌, ◌^◌, Bool, true, false, cond, ◌||◌, eqb, leb, List, [], ◌∷◌, ◌++◌, map, length, ◌-◌, codes, Option, Some, None, Result, Ok, Err, inl, inr, refl, sym, ap, subst, ◌∙◌, append_assoc, arith, lit<}
use Rattle.std.specs.FinMap as finite
use Rattle.std.specs.FinSet as set
use Rattle.std.specs.List.{list_any}
use Rattle.std.proofs.lemmas.Bool.{eqb-true, leb-true, le-leb, or_from}
use Rattle.std.proofs.lemmas.Bool.Decides.{nat_tests}
use Rattle.std.proofs.lemmas.List.{take_at, drop_at}
use Rattle.std.proofs.lemmas.List.Folds.{list_any-append}
use Rattle.byteorder.specs.Endian.{little_bytes}
use Rattle.byteorder.specs.Numbers.{length-bytes_low_first}
use Rattle.table_model.specs.Identifier.{same_text}
use Rattle.table_model.specs.Name.{name_cmp, row_name_cmp}
use Rattle.table_model.specs.Reading.{◌>>=◌}
use Rattle.table_model.specs.Table.{Table, ColumnShape, bits_of}
use Rattle.table_model.specs.declared.names.BatchName.{BatchName}
use Rattle.table_model.specs.declared.names.Origin.{Origin}
use Rattle.table_model.specs.declared.schema.ColType.{ColType}
use Rattle.table_model.specs.declared.schema.ColType.TheVariants.{SmallInt, Integer, BigInt}
use Rattle.table_model.specs.declared.refusal.Refusal.{Refusal}
use Rattle.table_model.specs.declared.refusal.Refusal.TheVariants.{Memory, ReadFault, BadCount, BadSchema, BadMagic, BadVersion, BadName, TrailingBytes, NotCanonical}
use Rattle.segment_core.specs.Format.{Format, seen, read_all, checked, before, all, number, constant, read_whole}
use Rattle.segment_core.proofs.FormatLaws.{bind_ok, guard_ok, ok_is}
use Rattle.segment_core.proofs.NumberLaws.{number_spelled}
use Rattle.replica_store.specs.Exchange.{OfferForm, SummaryForm, offering}
use Rattle.replica_store.specs.Replica.{Replica, batch_limit}
use Rattle.replica_store.specs.Segments.{Entry as Held}
use Rattle.column_file.specs.Ordered.{in_order}
use Rattle.column_file.specs.SchemaBytes.{name, tag_of, first_tag, type_tagged, column_type, is_new, column, column_count, schema, is_tiny, has_tiny, version_of}
use Rattle.column_file.specs.SummaryBytes.{is_version, version, has_version, head, batch_name, name_count, names, summary, summary_listed, summary_bytes}
use Rattle.column_file.specs.ContainerBytes.{Entry, entry_of, batch, batches, Deleted, deleted_of, ranges, container}
use Rattle.column_file.specs.Files.{ranges_of, file_of, canonical_entry, first_difference, judged, offer_held, canonical_read}
use Rattle.column_file.specs.Input.{IsUnread, Judges}
use Rattle.column_file.specs.FirstVersion.{KeepsFirst, batch_limit_1, column_type_1, column_1, schema_1, is_version_1, version_1, head_1, is_count_1, name_count_1, names_1, summary_1, batches_1, container_1, offer_read_1, file_of_1, judged_1, canonical_read_1, version_field, VersionsAreWritten, FirstFilesStay, FirstFilesHold, FirstFilesOpen, FirstOffersAreRead, FirstSummariesAreRead}
use Rattle.column_file.proofs.SummaryWriting.{head_spelled, summary_spelled, whole_read}

-- ---- the version that is written

version_small : (tiny : Bool) → cond tiny 2 1 < 256 ^ 2
version_small true = lit< tt
version_small false = lit< tt

field_after : (magic field rest : List ℕ) → length magic ≡ 4 → length field ≡ 2 → version_field (magic ++ (field ++ rest)) ≡ field
field_after magic field rest four two = rw (drop_at magic (field ++ rest) 4 four) (take_at field rest 2 two)

head_field : (magic : List ℕ) (t : Table) (rest : List ℕ) → length magic ≡ 4 → version_field ((head magic).spell t ++ rest) ≡ little_bytes 2 (version_of t)
head_field magic t rest four =
    let v = version_of t in
    let s = (schema v).spell t in
    let written : (number 2).spell v ≡ little_bytes 2 v = number_spelled 2 v (version_small (has_tiny t)) in
    let spelled : (head magic).spell t ≡ magic ++ (little_bytes 2 v ++ s) = head_spelled magic t ∙ ap (λ (field : List ℕ). magic ++ (field ++ s)) written in
    let whole : (head magic).spell t ++ rest ≡ magic ++ (little_bytes 2 v ++ (s ++ rest)) =
    ap (λ (text : List ℕ). text ++ rest) spelled ∙ append_assoc magic (little_bytes 2 v ++ s) rest ∙ ap (λ (text : List ℕ). magic ++ text) (append_assoc (little_bytes 2 v) s rest) in
    ap version_field whole ∙ field_after magic (little_bytes 2 v) (s ++ rest) four (length-bytes_low_first 0 2 v)

file_field : (t : Table) (entries : List Held) (deleted : set.FinSet row_name_cmp) → version_field (file_of t entries deleted) ≡ little_bytes 2 (version_of t)
unfolding file_of container
file_field t entries deleted =
    head_field (codes "FLCF") t ((batches t).spell (map entry_of entries) ++ ranges.spell (map deleted_of (ranges_of deleted))) refl

summary_field : (s : SummaryForm) → version_field (summary_bytes s) ≡ little_bytes 2 (version_of s.schema)
summary_field s =
    let listed = in_order name_cmp s.names in
    ap version_field (summary_spelled s.schema listed) ∙ head_field (codes "FLSM") s.schema (names.spell listed) refl

pub versions_are_written : VersionsAreWritten
versions_are_written = record {
  files = λ t state. file_field t (map (canonical_entry t) (finite.entries state.batches)) state.deleted;
  offers = λ o. file_field o.schema (finite.entries o.segments) o.state.deleted;
  summaries = summary_field;
}

-- ---- the bytes of version 1

pub same_schema : schema 1 ≡ schema_1
unfolding schema column column_type schema_1 column_1 column_type_1
same_schema = refl

pub head_stays : (magic : List ℕ) (t : Table) → has_tiny t ≡ false → (head magic).spell t ≡ (head_1 magic).spell t
unfolding head head_1 version version_1
head_stays magic t none =
    let first : version_of t ≡ 1 = ap (λ (b : Bool). cond b 2 1) none in
    ap (λ (v : ℕ). magic ++ (version.spell v ++ (schema v).spell t)) first
    ∙ ap (λ (s : Format Table). magic ++ (version.spell 1 ++ s.spell t)) same_schema

batches_stay : (t : Table) (es : List Entry) → (batches t).spell es ≡ (batches_1 t).spell es
unfolding batches batches_1 name_count name_count_1
batches_stay t es = refl

pub file_stays : (t : Table) (entries : List Held) (deleted : set.FinSet row_name_cmp) → has_tiny t ≡ false → file_of t entries deleted ≡ file_of_1 t entries deleted
unfolding file_of file_of_1 container container_1
file_stays t entries deleted none =
    let es = map entry_of entries in
    let last = ranges.spell (map deleted_of (ranges_of deleted)) in
    ap (λ (first : List ℕ). first ++ ((batches t).spell es ++ last)) (head_stays (codes "FLCF") t none)
    ∙ ap (λ (held : List ℕ). (head_1 (codes "FLCF")).spell t ++ (held ++ last)) (batches_stay t es)

pub first_files_stay : FirstFilesStay
first_files_stay t state none = file_stays t (map (canonical_entry t) (finite.entries state.batches)) state.deleted none

-- ---- what a format reads

-- a value that a format reads of some bytes
record IsRead {A : Type 0} (f : Format A) (x : A) : Type 0 where
  total : ℕ
  bytes : List ℕ
  rest : List ℕ
  reads : f.read total bytes ≡ Ok (x, rest)

seen_read : {A B : Type 0} (f : Format A) (to : A → B) (from : B → Option A) (y : B) → IsRead (seen f to from) y → (x : A) × IsRead f x × (to x ≡ y)
seen_read {A = A} {B = B} f to from y h =
    let a = bind_ok (f.read h.total h.bytes) (λ (x : A × List ℕ). Ok (to x.0, x.1)) (y, h.rest) h.reads in
    (a.0.0, record { total = h.total; bytes = h.bytes; rest = a.0.1; reads = a.1 }, ap (λ (p : B × List ℕ). p.0) (ok_is {A = B × List ℕ} (to a.0.0, a.0.1) (y, h.rest) a.2))

checked_read : {A : Type 0} (f : Format A) (test : A → Bool) (fault : ℕ → Refusal) (x : A) → IsRead (checked f test fault) x → IsRead f x × (test x ≡ true)
checked_read {A = A} f test fault x h =
    let a = bind_ok (f.read h.total h.bytes) (λ (y : A × List ℕ). cond (test y.0) (Ok y) (Err (fault (h.total - length h.bytes)))) (x, h.rest) h.reads in
    let g = guard_ok {A = A × List ℕ} (test a.0.0) (fault (h.total - length h.bytes)) a.0 (x, h.rest) a.2 in
    let same : a.0.0 ≡ x = ap (λ (p : A × List ℕ). p.0) g.1 in
    (record { total = h.total; bytes = h.bytes; rest = h.rest; reads = a.1 ∙ ap Ok g.1 }, ap test (sym same) ∙ g.0)

before_read : {A B : Type 0} (f : Format A) (g : A → Format B) (p : A × B) → IsRead (before f g) p → IsRead f p.0 × IsRead (g p.0) p.1
before_read {A = A} {B = B} f g p h =
    let a = bind_ok (f.read h.total h.bytes) (λ (x : A × List ℕ). (g x.0).read h.total x.1 >>= λ (y : B × List ℕ). Ok ((x.0, y.0), y.1)) (p, h.rest) h.reads in
    let b = bind_ok ((g a.0.0).read h.total a.0.1) (λ (y : B × List ℕ). Ok ((a.0.0, y.0), y.1)) (p, h.rest) a.2 in
    let same : (a.0.0, b.0.0) ≡ p = ap (λ (q : (A × B) × List ℕ). q.0) (ok_is {A = (A × B) × List ℕ} ((a.0.0, b.0.0), b.0.1) (p, h.rest) b.2) in
    let first : IsRead f a.0.0 = record { total = h.total; bytes = h.bytes; rest = a.0.1; reads = a.1 } in
    let second : IsRead (g a.0.0) b.0.0 = record { total = h.total; bytes = a.0.1; rest = b.0.1; reads = b.1 } in
    subst (λ (q : A × B). IsRead f q.0 × IsRead (g q.0) q.1) same (first, second)

-- ---- what one format reads another reads

-- what the first reads of bytes the second reads too, and leaves as much
abbrev Keeps : {A : Type 0} → Format A → Format A → Type 0
Keeps {A = A} f g = (total : ℕ) (bytes : List ℕ) (x : A) (rest : List ℕ) → f.read total bytes ≡ Ok (x, rest) → g.read total bytes ≡ Ok (x, rest)

itself_keeps : {A : Type 0} (f : Format A) → Keeps f f
itself_keeps f total bytes x rest e = e

seen_keeps : {A B : Type 0} (f g : Format A) (to : A → B) (from from_now : B → Option A) → Keeps f g → Keeps (seen f to from) (seen g to from_now)
seen_keeps {A = A} {B = B} f g to from from_now keeps total bytes y rest e =
    let a = bind_ok (f.read total bytes) (λ (x : A × List ℕ). Ok (to x.0, x.1)) (y, rest) e in
    rw (keeps total bytes a.0.0 a.0.1 a.1) a.2

weaker_keeps : {A : Type 0} (f : Format A) (test weaker : A → Bool) (fault : ℕ → Refusal) → ((x : A) → test x ≡ true → weaker x ≡ true) → Keeps (checked f test fault) (checked f weaker fault)
weaker_keeps {A = A} f test weaker fault less total bytes x rest e =
    let a = bind_ok (f.read total bytes) (λ (x : A × List ℕ). cond (test x.0) (Ok x) (Err (fault (total - length bytes)))) (x, rest) e in
    let g = guard_ok {A = A × List ℕ} (test a.0.0) (fault (total - length bytes)) a.0 (x, rest) a.2 in
    rw (a.1, less a.0.0 g.0) (ap Ok g.1)

-- so is it with a test that what is read always passes
checked_keeps : {A : Type 0} (f g : Format A) (test : A → Bool) (fault : ℕ → Refusal) → Keeps f g → ((x : A) → IsRead f x → test x ≡ true) → Keeps f (checked g test fault)
checked_keeps f g test fault keeps passes total bytes x rest e =
    rw (keeps total bytes x rest e, passes x (record { total = total; bytes = bytes; rest = rest; reads = e })) refl

before_keeps : {A B : Type 0} (f g : Format A) (next next_now : A → Format B) → Keeps f g → ((x : A) → IsRead f x → Keeps (next x) (next_now x)) → Keeps (before f next) (before g next_now)
before_keeps {A = A} {B = B} f g next next_now keeps later total bytes p rest e =
    let a = bind_ok (f.read total bytes) (λ (x : A × List ℕ). (next x.0).read total x.1 >>= λ (y : B × List ℕ). Ok ((x.0, y.0), y.1)) (p, rest) e in
    let b = bind_ok ((next a.0.0).read total a.0.1) (λ (y : B × List ℕ). Ok ((a.0.0, y.0), y.1)) (p, rest) a.2 in
    let found : IsRead f a.0.0 = record { total = total; bytes = bytes; rest = a.0.1; reads = a.1 } in
    rw (keeps total bytes a.0.0 a.0.1 a.1, later a.0.0 found total a.0.1 b.0.0 b.0.1 b.1) b.2

whole_keeps : {A : Type 0} (f g : Format A) → Keeps f g → (bytes : List ℕ) (x : A) → read_whole f bytes ≡ Ok x → read_whole g bytes ≡ Ok x
whole_keeps {A = A} f g keeps bytes x e =
    let a = bind_ok (f.read (length bytes) bytes) (λ (y : A × List ℕ). cond (eqb (length y.1) 0) (Ok y.0) (Err (TrailingBytes (length bytes - length y.1)))) x e in
    rw (keeps (length bytes) bytes a.0.0 a.0.1 a.1) a.2

-- ---- schemas of version 1 have no column of 8 bits

not_one : (tag : ℕ) → first_tag tag ≡ true → eqb tag 1 ≡ false
not_one zero e = refl
not_one (suc zero) e = absurd cc
not_one (suc (suc tag)) e = grind (arith, nat_tests)

wide_type : (two four : Bool) → eqb (bits_of (cond two SmallInt (cond four Integer BigInt))) 8 ≡ false
wide_type true four = refl
wide_type false true = refl
wide_type false false = refl

wide_tag : (tag : ℕ) → first_tag tag ≡ true → eqb (bits_of (type_tagged tag)) 8 ≡ false
wide_tag tag e = rw (not_one tag e) (wide_type (eqb tag 2) (eqb tag 4))

type_is_wide : (t : ColType) → IsRead column_type_1 t → eqb (bits_of t) 8 ≡ false
unfolding column_type_1
type_is_wide t h =
    let a = seen_read (checked (number 1) first_tag (λ _. BadSchema)) type_tagged (λ t. Some (tag_of t)) t h in
    ap (λ (u : ColType). eqb (bits_of u) 8) (sym a.2) ∙ wide_tag a.0 (checked_read (number 1) first_tag (λ _. BadSchema) a.0 a.1).1

column_is_wide : (front : List ColumnShape) (c : ColumnShape) → IsRead (column_1 front) c → is_tiny c ≡ false
unfolding column_1
column_is_wide front c h =
    let both = before column_type_1 (λ _. name) in
    let made : ColType × List ℕ → ColumnShape = λ p. record { name = p.1; column_type = p.0 } in
    let shape : Format ColumnShape = seen both made (λ c. Some (c.column_type, c.name)) in
    let a = seen_read both made (λ c. Some (c.column_type, c.name)) c (checked_read shape (is_new front) (λ _. BadSchema) c h).0 in
    ap is_tiny (sym a.2) ∙ type_is_wide a.0.0 (before_read column_type_1 (λ _. name) a.0 a.1).0

columns_are_wide : (n : ℕ) (front : List ColumnShape) (total : ℕ) (bytes : List ℕ) (cs : List ColumnShape) (rest : List ℕ) → read_all column_1 n front total bytes ≡ Ok (cs, rest) → list_any is_tiny front ≡ false → list_any is_tiny cs ≡ false
unfolding read_all
columns_are_wide zero front total bytes cs rest e wide =
    ap (λ (p : List ColumnShape × List ℕ). list_any is_tiny p.0) (sym (ok_is {A = List ColumnShape × List ℕ} (front, bytes) (cs, rest) e)) ∙ wide
columns_are_wide (suc n) front total bytes cs rest e wide =
    let a = bind_ok ((column_1 front).read total bytes) (λ (x : ColumnShape × List ℕ). read_all column_1 n (front ++ x.0 ∷ []) total x.1) (cs, rest) e in
    let here = column_is_wide front a.0.0 (record { total = total; bytes = bytes; rest = a.0.1; reads = a.1 }) in
    let more : list_any is_tiny (front ++ a.0.0 ∷ []) ≡ false = list_any-append is_tiny front (a.0.0 ∷ []) ∙ or_from (list_any is_tiny front) (is_tiny a.0.0 || false) wide (or_from (is_tiny a.0.0) false here refl) in
    columns_are_wide n (front ++ a.0.0 ∷ []) total a.0.1 cs rest a.2 more

table_is_wide : (t : Table) → IsRead schema_1 t → has_tiny t ≡ false
unfolding schema_1
table_is_wide t h =
    let after : ℕ → Format (List ℕ × List ColumnShape) = λ n. before name (λ _. all n column_1) in
    let made : ℕ × (List ℕ × List ColumnShape) → Table = λ p. record { name = p.1.0; columns = p.1.1 } in
    let a = seen_read (before column_count after) made (λ t. Some (length t.columns, (t.name, t.columns))) t h in
    let b = before_read column_count after a.0 a.1 in
    let c = before_read name (λ _. all a.0.0 column_1) a.0.1 b.1 in
    let columns = c.1 in
    ap has_tiny (sym a.2) ∙ columns_are_wide a.0.0 [] columns.total columns.bytes a.0.1.1 columns.rest columns.reads refl

-- ---- heads

schema_keeps : (v : ℕ) → v ≡ 1 → Keeps schema_1 (schema v)
schema_keeps v one total bytes t rest e = ap (λ (n : ℕ). (schema n).read total bytes) one ∙ ap (λ (s : Format Table). s.read total bytes) same_schema ∙ e

first_version : (n : ℕ) → is_version_1 n ≡ true → is_version n ≡ true
first_version n e = rw e refl

version_1_is : (n : ℕ) → IsRead version_1 n → n ≡ 1
unfolding version_1
version_1_is n h = eqb-true n 1 (checked_read (number 2) is_version_1 (λ _. BadVersion) n h).1

version_keeps : Keeps version_1 version
unfolding version version_1
version_keeps = weaker_keeps (number 2) is_version_1 is_version (λ _. BadVersion) first_version

-- the parts of a head
abbrev Parts : Type 0
Parts = List ℕ × (ℕ × Table)

abbrev parts_1 : List ℕ → Format Parts
parts_1 magic = before (constant magic BadMagic) (λ _. before version_1 (λ _. schema_1))

abbrev parts : List ℕ → Format Parts
parts magic = before (constant magic BadMagic) (λ _. before version schema)

parts_keep : (magic : List ℕ) → Keeps (parts_1 magic) (parts magic)
parts_keep magic =
    before_keeps (constant magic BadMagic) (constant magic BadMagic) (λ _. before version_1 (λ _. schema_1)) (λ _. before version schema) (itself_keeps (constant magic BadMagic))
    (λ x is. before_keeps version_1 version (λ _. schema_1) schema version_keeps (λ n v. schema_keeps n (version_1_is n v)))

-- what is read in version 1 stands in it
parts_stand : (magic : List ℕ) (p : Parts) → IsRead (parts_1 magic) p → has_version p ≡ true
parts_stand magic p h =
    let a = (before_read (constant magic BadMagic) (λ _. before version_1 (λ _. schema_1)) p h).1 in
    let b = before_read version_1 (λ _. schema_1) p.1 a in
    rw (version_1_is p.1.0 b.0, table_is_wide p.1.1 b.1) refl

head_keeps : (magic : List ℕ) → Keeps (head_1 magic) (head magic)
unfolding head head_1
head_keeps magic =
    seen_keeps (parts_1 magic) (checked (parts magic) has_version (λ _. BadVersion)) (λ p. p.1.1) (λ t. Some (magic, (1, t))) (λ t. Some (magic, (version_of t, t)))
    (checked_keeps (parts_1 magic) (parts magic) has_version (λ _. BadVersion) (parts_keep magic) (parts_stand magic))

head_is_wide : (magic : List ℕ) (t : Table) → IsRead (head_1 magic) t → has_tiny t ≡ false
unfolding head_1
head_is_wide magic t h =
    let a = seen_read (parts_1 magic) (λ p. p.1.1) (λ t. Some (magic, (1, t))) t h in
    let b = (before_read (constant magic BadMagic) (λ _. before version_1 (λ _. schema_1)) a.0 a.1).1 in
    ap has_tiny (sym a.2) ∙ table_is_wide a.0.1.1 (before_read version_1 (λ _. schema_1) a.0.1 b).1

-- ---- summaries and containers

fewer : (n : ℕ) → is_count_1 n ≡ true → leb n batch_limit ≡ true
fewer n e = let small = leb-true n batch_limit_1 e in le-leb n batch_limit (omega arith)

count_keeps : Keeps name_count_1 name_count
unfolding name_count name_count_1
count_keeps = weaker_keeps (number 4) is_count_1 (λ n. leb n batch_limit) BadCount fewer

-- a count, and so many items
counted_keeps : {A : Type 0} (item : List A → Format A)
    → Keeps (seen (before name_count_1 (λ n. all n item)) (λ p. p.1) (λ (found : List A). Some (length found, found))) (seen (before name_count (λ n. all n item)) (λ p. p.1) (λ (found : List A). Some (length found, found)))
counted_keeps {A = A} item =
    let rest : ℕ → Format (List A) = λ n. all n item in
    let counted : List A → Option (ℕ × List A) = λ found. Some (length found, found) in
    seen_keeps (before name_count_1 rest) (before name_count rest) (λ p. p.1) counted counted (before_keeps name_count_1 name_count rest rest count_keeps (λ n is. itself_keeps (rest n)))

names_keep : Keeps names_1 names
unfolding names names_1
names_keep = counted_keeps batch_name

batches_keep : (t : Table) → Keeps (batches_1 t) (batches t)
unfolding batches batches_1
batches_keep t = counted_keeps (batch t)

summary_keeps : Keeps summary_1 summary
unfolding summary summary_1
summary_keeps = before_keeps (head_1 (codes "FLSM")) (head (codes "FLSM")) (λ _. names_1) (λ _. names) (head_keeps (codes "FLSM")) (λ t is. names_keep)

-- what a container holds
abbrev Parsed : Type 0
Parsed = Table × (List Entry × List Deleted)

abbrev rest_1 : Table → Format (List Entry × List Deleted)
rest_1 t = before (batches_1 t) (λ _. ranges)

container_keeps : Keeps container_1 container
unfolding container container_1
container_keeps =
    let rest : Table → Format (List Entry × List Deleted) = λ t. before (batches t) (λ _. ranges) in
    before_keeps (head_1 (codes "FLCF")) (head (codes "FLCF")) rest_1 rest (head_keeps (codes "FLCF"))
    (λ t is. before_keeps (batches_1 t) (batches t) (λ _. ranges) (λ _. ranges) (batches_keep t) (λ found was. itself_keeps ranges))

container_is_wide : (c : Parsed) → IsRead container_1 c → has_tiny c.0 ≡ false
unfolding container_1
container_is_wide c h = head_is_wide (codes "FLCF") c.0 (before_read (head_1 (codes "FLCF")) rest_1 c h).0

-- ---- whole inputs

pub first_summaries_are_read : FirstSummariesAreRead
first_summaries_are_read bytes s e =
    let a = bind_ok (read_whole summary_1 bytes) (λ (p : Table × List BatchName). Ok (summary_listed p)) s e in
    rw (whole_keeps summary_1 summary summary_keeps bytes a.0 a.1) a.2

pub first_offers_are_read : FirstOffersAreRead
first_offers_are_read bytes o e =
    let a = bind_ok (read_whole container_1 bytes) (λ (c : Parsed). Ok (offer_held c)) o e in
    rw (whole_keeps container_1 container container_keeps bytes a.0 a.1) a.2

-- the table of what version 1 read has no column of 8 bits
offer_is_wide : (bytes : List ℕ) (o : OfferForm) → offer_read_1 bytes ≡ Ok o → has_tiny o.schema ≡ false
offer_is_wide bytes o e =
    let a = bind_ok (read_whole container_1 bytes) (λ (c : Parsed). Ok (offer_held c)) o e in
    let found : IsRead container_1 a.0 = record { total = length bytes; bytes = bytes; rest = []; reads = whole_read container_1 bytes a.0 a.1 } in
    subst (λ (x : OfferForm). has_tiny x.schema ≡ false) (ok_is (offer_held a.0) o a.2) (container_is_wide a.0 found)

-- so it is judged by the same bytes
pub judged_alike : (bytes : List ℕ) (o : OfferForm) → has_tiny o.schema ≡ false → judged bytes o ≡ judged_1 bytes o
judged_alike bytes o none = ap (λ (file : List ℕ). cond (same_text bytes file) (Ok o) (Err (NotCanonical (first_difference bytes file)))) (first_files_stay o.schema o.state none)

pub first_files_hold : FirstFilesHold
first_files_hold bytes o e =
    let a = bind_ok (offer_read_1 bytes) (judged_1 bytes) o e in
    rw (first_offers_are_read bytes a.0 a.1) (judged_alike bytes a.0 (offer_is_wide bytes a.0 a.1) ∙ a.2)

own_keeps : (none : Bool) (was is : Result Replica Refusal) (r : Replica) → (was ≡ Ok r → is ≡ Ok r) → cond none (Err BadName) was ≡ Ok r → cond none (Err BadName) is ≡ Ok r
own_keeps true was is r keeps e = absurd cc
own_keeps false was is r keeps e = keeps e

replica_keeps : (own : Origin) (bytes : List ℕ) (r : Replica) → (canonical_read_1 bytes >>= λ (o : OfferForm). Ok (offering own o)) ≡ Ok r → (canonical_read bytes >>= λ (o : OfferForm). Ok (offering own o)) ≡ Ok r
replica_keeps own bytes r e =
    let a = bind_ok (canonical_read_1 bytes) (λ (o : OfferForm). Ok (offering own o)) r e in
    rw (first_files_hold bytes a.0 a.1) a.2

pub first_files_open : FirstFilesOpen
first_files_open own bytes r e =
    own_keeps (eqb own.0 0) (canonical_read_1 bytes >>= λ (o : OfferForm). Ok (offering own o)) (canonical_read bytes >>= λ (o : OfferForm). Ok (offering own o)) r (replica_keeps own bytes r) e

-- ---- calls

unread_or : (e : Refusal) → (((e ≡ Memory) → ⊥) → ((e ≡ ReadFault) → ⊥) → ⊥) → IsUnread e
unread_or Memory h = inl refl
unread_or ReadFault h = inr refl
unread_or other h = absurd (h (λ is. cc) (λ is. cc))

one_result : {Y : Type 0} (r : Result Y Refusal) (e : Refusal) (y : Y) → r ≡ Err e → r ≡ Ok y → ⊥
one_result r e y fault fine = cc

-- a call that returns what its input means, where version 1 gave that the same meaning
pub keeps_first : {X Y : Type 0} (view : X → Y) (result : Result X Refusal) (known : Option (List ℕ)) (was is : List ℕ → Result Y Refusal) → ((bytes : List ℕ) (y : Y) → was bytes ≡ Ok y → is bytes ≡ Ok y) → Judges view result known is → KeepsFirst view result known was
keeps_first view result None was is keeps h = tt
keeps_first view (Ok x) (Some input) was is keeps h = λ y e. ok_is (view x) y (sym h ∙ keeps input y e)
keeps_first view (Err e) (Some input) was is keeps h = λ y first. unread_or e (λ a b. one_result (is input) e y (h a b) (keeps input y first))
