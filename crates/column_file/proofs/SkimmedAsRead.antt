-- What is read of a container is skimmed so, and then it is what a file holds.
use Rattle.std.proofs.Common.{◌≡◌, ℕ, zero, suc, ◌-◌, Bool, true, false, cond, eqb, List, [], ◌∷◌, ◌++◌, map, length, codes, Result, Ok, Err, refl, sym, ap, subst, ◌∙◌}
use Rattle.std.specs.Bool.{passes}
use Rattle.std.specs.FinMap as finite
use Rattle.std.specs.FinSet as set
use Rattle.std.specs.FinMap.Entries.{is_sorted}
use Rattle.std.proofs.lemmas.List.{map-append, length-map}
use Rattle.table_model.specs.Name.{name_cmp, row_name_cmp}
use Rattle.table_model.specs.Identifier.{same_text}
use Rattle.table_model.specs.Reading.{◌>>=◌}
use Rattle.table_model.specs.Table.{Table}
use Rattle.table_model.specs.declared.names.BatchName.{BatchName}
use Rattle.table_model.specs.declared.refusal.Refusal.{Refusal}
use Rattle.table_model.specs.declared.refusal.Refusal.TheVariants.{TrailingBytes, NotCanonical}
use Rattle.catalogue_join.specs.RowRange.{RowRange, rows_in as rows_deleted}
use Rattle.segment_core.specs.Format.{Format, before, read_all, all, read_whole}
use Rattle.segment_core.specs.Segment.{SegmentForm, widths_of}
use Rattle.segment_core.specs.SegmentBytes.{batch_columns}
use Rattle.segment_core.proofs.FormatLaws.{bind_ok, guard_ok, ok_is}
use Rattle.replica_store.specs.Exchange.{OfferForm}
use Rattle.replica_store.specs.Replica.{names_of}
use Rattle.replica_store.specs.Segments.{Entry as Held, rows_in}
use Rattle.replica_store.proofs.RowsIn.{len-rows_in}
use Rattle.replica_store.proofs.Summaries.{names_of-rows_in}
use Rattle.column_file.specs.SummaryBytes.{head, batch_name, name_count}
use Rattle.column_file.specs.ContainerBytes.{Entry, name_of, row_count, batch, batches, Deleted, deleted_of, ranges, container}
use Rattle.column_file.specs.Files.{held_of, range_of, segments_of, offer_held, offer_read, judged, canonical_file, first_difference}
use Rattle.column_file.proofs.OfferReading.{container_parts, range_back}
use Rattle.column_file.specs.Passing.{over_columns}
use Rattle.column_file.specs.Skimming.{name_over, as_name, names_over, skimmed, skim_in, SkimmedAsRead, IsSkimmed, FilesAreSkimmed}
use Rattle.column_file.proofs.NamesInOrder.{in_order}
use Rattle.column_file.proofs.PassedAsRead.{columns_passed}

-- ---- one value before another

-- the first value was read, and then the second
abbrev pub ReadsBoth : {A B : Type 0} → Format A → (A → Format B) → ℕ → List ℕ → (A × B) × List ℕ → Type 0
ReadsBoth f g total bytes p = (mid : List ℕ) × (f.read total bytes ≡ Ok (p.0.0, mid)) × ((g p.0.0).read total mid ≡ Ok (p.0.1, p.1))

both_read : {A B : Type 0} (f : Format A) (g : A → Format B) (total : ℕ) (bytes rest : List ℕ) (p : A × B) → (before f g).read total bytes ≡ Ok (p, rest) → ReadsBoth f g total bytes (p, rest)
both_read {A = A} {B = B} f g total bytes rest p e =
    let a = bind_ok (f.read total bytes) (λ (x : A × List ℕ). (g x.0).read total x.1 >>= λ (y : B × List ℕ). Ok ((x.0, y.0), y.1)) (p, rest) e in
    let b = bind_ok ((g a.0.0).read total a.0.1) (λ (y : B × List ℕ). Ok ((a.0.0, y.0), y.1)) (p, rest) a.2 in
    let same = ok_is {A = (A × B) × List ℕ} ((a.0.0, b.0.0), b.0.1) (p, rest) b.2 in
    subst (λ (q : (A × B) × List ℕ). ReadsBoth f g total bytes q) same (a.0.1, a.1, b.1)

read_both : {A B : Type 0} (f : Format A) (g : A → Format B) (total : ℕ) (bytes mid rest : List ℕ) (x : A) (y : B) → f.read total bytes ≡ Ok (x, mid) → (g x).read total mid ≡ Ok (y, rest) → (before f g).read total bytes ≡ Ok ((x, y), rest)
read_both f g total bytes mid rest x y first second = rw (first, second) refl

-- ---- batches

batch_named : (t : Table) (front : List Entry) (total : ℕ) (bytes rest : List ℕ) (e : Entry) → (batch t front).read total bytes ≡ Ok (e, rest) → name_over t (map name_of front) total bytes ≡ Ok (e.0, rest)
unfolding batch name_over
batch_named t front total bytes rest e is =
    let a = both_read (batch_name (map name_of front)) (λ _. before row_count (batch_columns t)) total bytes rest e is in
    let b = both_read row_count (batch_columns t) total a.0 rest e.1 a.2 in
    let passed : over_columns (widths_of t) e.1.0 total b.0 ≡ Ok rest = columns_passed (widths_of t) e.1.0 total b.0 rest e.1.1 b.2 in
    rw (a.1, b.1, passed) refl

named_items : (t : Table) (n : ℕ) (front : List Entry) (total : ℕ) (bytes rest : List ℕ) (es : List Entry) → read_all (batch t) n front total bytes ≡ Ok (es, rest) → read_all (as_name t) n (map name_of front) total bytes ≡ Ok (map name_of es, rest)
unfolding read_all
named_items t zero front total bytes rest es is = ap (λ (p : List Entry × List ℕ). Ok (map name_of p.0, p.1)) (ok_is {A = List Entry × List ℕ} (front, bytes) (es, rest) is)
named_items t (suc n) front total bytes rest es is =
    let a = bind_ok ((batch t front).read total bytes) (λ (x : Entry × List ℕ). read_all (batch t) n (front ++ x.0 ∷ []) total x.1) (es, rest) is in
    let names : map name_of (front ++ a.0.0 ∷ []) ≡ map name_of front ++ a.0.0.0 ∷ [] = map-append name_of front (a.0.0 ∷ []) in
    let one = batch_named t front total bytes a.0.1 a.0.0 a.1 in
    let next = named_items t n (front ++ a.0.0 ∷ []) total a.0.1 rest es a.2 in
    rw one (rw names at next)

names_read : (t : Table) (total : ℕ) (bytes rest : List ℕ) (es : List Entry) → (batches t).read total bytes ≡ Ok (es, rest) → (names_over t).read total bytes ≡ Ok (map name_of es, rest)
unfolding batches names_over
names_read t total bytes rest es is =
    let counted : ℕ → Format (List Entry) = λ n. all n (batch t) in
    let a = bind_ok ((before name_count counted).read total bytes) (λ (x : (ℕ × List Entry) × List ℕ). Ok (x.0.1, x.1)) (es, rest) is in
    let same = ok_is {A = List Entry × List ℕ} (a.0.0.1, a.0.1) (es, rest) a.2 in
    let b = both_read name_count counted total bytes a.0.1 a.0.0 a.1 in
    let listed = named_items t a.0.0.0 [] total b.0 a.0.1 a.0.0.1 b.2 in
    let found = read_both name_count (λ n. all n (as_name t)) total bytes b.0 a.0.1 a.0.0.0 (map name_of a.0.0.1) b.1 listed in
    subst (λ (p : List Entry × List ℕ). (names_over t).read total bytes ≡ Ok (map name_of p.0, p.1)) same (rw found refl)

-- ---- a container

-- what takes all bytes
whole_is : {A : Type 0} (f : Format A) (bytes : List ℕ) (x : A) → read_whole f bytes ≡ Ok x → (rest : List ℕ) × (f.read (length bytes) bytes ≡ Ok (x, rest)) × (eqb (length rest) 0 ≡ true)
whole_is {A = A} f bytes x is =
    let a = bind_ok (f.read (length bytes) bytes) (λ (y : A × List ℕ). cond (eqb (length y.1) 0) (Ok y.0) (Err (TrailingBytes (length bytes - length y.1)))) x is in
    let g = guard_ok (eqb (length a.0.1) 0) (TrailingBytes (length bytes - length a.0.1)) a.0.0 x a.2 in
    (a.0.1, a.1 ∙ ap (λ (y : A). Ok (y, a.0.1)) g.1, g.0)

is_whole : {A : Type 0} (f : Format A) (bytes rest : List ℕ) (x : A) → f.read (length bytes) bytes ≡ Ok (x, rest) → eqb (length rest) 0 ≡ true → read_whole f bytes ≡ Ok x
is_whole f bytes rest x is none = rw (is, none) refl

-- ranges that were read, as the set of their rows
abbrev with_rows : Result (Table × (List BatchName × List Deleted)) Refusal → Result (Table × (List BatchName × set.FinSet row_name_cmp)) Refusal
with_rows read = read >>= λ found. Ok (found.0, (found.1.0, rows_deleted (map range_of found.1.1)))

pub rows_skimmed : (bytes : List ℕ) (t : Table) (names : List BatchName) (ranges taken : List RowRange) (rows : set.FinSet row_name_cmp) → read_whole skimmed bytes ≡ Ok (t, (names, map deleted_of ranges)) → taken ≡ ranges → rows ≡ rows_deleted taken
    → skim_in bytes ≡ Ok (t, (names, rows))
rows_skimmed bytes t names ranges taken rows read same made =
    let back : rows_deleted (map range_of (map deleted_of ranges)) ≡ rows = ap rows_deleted (range_back ranges ∙ sym same) ∙ sym made in
    ap with_rows read ∙ ap (λ (deleted : set.FinSet row_name_cmp). Ok (t, (names, deleted))) back

pub skimmed_as_read : SkimmedAsRead
unfolding container skimmed
skimmed_as_read bytes c is =
    let total : ℕ = length bytes in
    let w = whole_is container bytes c is in
    let a = both_read (head (codes "FLCF")) (λ table. before (batches table) (λ _. ranges)) total bytes w.0 c w.1 in
    let b = both_read (batches c.0) (λ _. ranges) total a.0 w.0 c.1 a.2 in
    let names = names_read c.0 total a.0 b.0 c.1.0 b.1 in
    let rest = read_both (names_over c.0) (λ _. ranges) total a.0 b.0 w.0 (map name_of c.1.0) c.1.1 names b.2 in
    let found = read_both (head (codes "FLCF")) (λ table. before (names_over table) (λ _. ranges)) total bytes a.0 w.0 c.0 (map name_of c.1.0, c.1.1) a.1 rest in
    ap with_rows (is_whole skimmed bytes w.0 (c.0, (map name_of c.1.0, c.1.1)) found w.2)

-- ---- a file

names_held : (es : List Entry) → map (λ (e : Held). e.0) (map held_of es) ≡ map name_of es
names_held [] = refl
names_held (e ∷ es) = ap (λ (ns : List BatchName). e.0 ∷ ns) (names_held es)

same_names : (es : List Entry) → is_sorted name_cmp (map held_of es) ≡ true → set.from_list (map name_of es) ≡ names_of (rows_in (segments_of es))
unfolding names_of
same_names es sorted =
    let m : finite.FinMap name_cmp SegmentForm = segments_of es in
    let entries : finite.entries m ≡ map held_of es = finite.entries-from_sorted name_cmp (map held_of es) (passes (is_sorted name_cmp (map held_of es)) sorted) in
    let keys : finite.keys m ≡ map name_of es = ap (λ (xs : List Held). map (λ (e : Held). e.0) xs) entries ∙ names_held es in
    ap (λ (ns : List BatchName). set.from_list {R = name_cmp} ns) (sym keys) ∙ sym (names_of-rows_in m)

-- there is a name for each batch
name_count_is : (es : List Entry) → is_sorted name_cmp (map held_of es) ≡ true → length (map name_of es) ≡ finite.len (rows_in (segments_of es))
name_count_is es sorted =
    let m : finite.FinMap name_cmp SegmentForm = segments_of es in
    let entries : finite.entries m ≡ map held_of es = finite.entries-from_sorted name_cmp (map held_of es) (passes (is_sorted name_cmp (map held_of es)) sorted) in
    length-map es name_of ∙ sym (length-map es held_of) ∙ ap length (sym entries) ∙ sym (finite.len-entries m) ∙ sym (len-rows_in m)

-- bytes that hold their canonical file hold what was read
judged_is : (b : Bool) (o x : OfferForm) (e : Refusal) → cond b (Ok o) (Err e) ≡ Ok x → o ≡ x
judged_is true o x e is = ok_is o x is
judged_is false o x e is = absurd cc

pub files_are_skimmed : FilesAreSkimmed
files_are_skimmed bytes o fit is =
    let read = bind_ok (offer_read bytes) (judged bytes) o is in
    let c = bind_ok (read_whole container bytes) (λ (c : Table × (List Entry × List Deleted)). Ok (offer_held c)) read.0 read.1 in
    let first : offer_held c.0 ≡ read.0 = ok_is (offer_held c.0) read.0 c.2 in
    let file : List ℕ = canonical_file read.0.schema read.0.state in
    let second : read.0 ≡ o = judged_is (same_text bytes file) read.0 o (NotCanonical (first_difference bytes file)) read.2 in
    let sorted = in_order c.0.0 [] c.0.1.0 (container_parts bytes c.0.0 c.0.1.0 c.0.1.1 fit c.1).batches in
    let made : IsSkimmed bytes (offer_held c.0) = record {
      names = map name_of c.0.1.0;
      found = skimmed_as_read bytes c.0 c.1;
      same_names = same_names c.0.1.0 sorted;
      count = name_count_is c.0.1.0 sorted;
    } in
    subst (λ (x : OfferForm). IsSkimmed bytes x) (first ∙ second) made
