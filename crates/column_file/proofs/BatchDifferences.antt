-- Batches of which the first that isn't canonical has its first other vector in its canonical form: their bytes differ from those that
-- were read where the canonical ones do.
use Rattle.std.proofs.Common.{◌≡◌, ℕ, ◌<◌, ◌≤◌, List, [], ◌++◌, map, length, get_or, set, take, All, sym, ap, subst, ◌∙◌, arith}
use Rattle.std.proofs.lemmas.List.{length-map, length-set, length-take-le, get_or-map, get_or-take, get_or-set_same, get_or_default, take-map, take-set}
use Rattle.table_model.specs.State.{Batch}
use Rattle.table_model.specs.Table.{Table}
use Rattle.segment_core.specs.Format.{number, spell_all}
use Rattle.segment_core.specs.CodedVector.{VectorForm}
use Rattle.segment_core.specs.Segment.{SegmentForm, widths_in, widths_of, canonical_forms}
use Rattle.segment_core.specs.SegmentBytes.{batch_columns}
use Rattle.replica_store.specs.Segments.{Entry as Held, IsStored}
use Rattle.column_file.specs.SummaryBytes.{batch_name}
use Rattle.column_file.specs.ContainerBytes.{row_count, Entry, entry_of, name_of, batch, batches}
use Rattle.column_file.specs.Differing.{DifferAlike, ColumnsDifferAlike, bytes_of, canonical_bytes_of}
use Rattle.column_file.specs.Files.{canonical_as_read, IsCanonicalHeld}
use Rattle.column_file.proofs.ContainerWriting.{batch_parts, batches_spelled}
use Rattle.column_file.proofs.Differences.{alike_before, all_alike}
use Rattle.column_file.proofs.Openings.{canonical_items}

-- ---- one batch

entry_alike : (t : Table) (front : List Entry) (e : Held) (made : SegmentForm) → widths_in e.1.forms ≡ widths_of t → made.rows ≡ e.1.rows → ColumnsDifferAlike e.1 made
    → DifferAlike ((batch t front).spell (entry_of e)) ((batch t front).spell (entry_of (e.0, made))) ((batch t front).spell (canonical_as_read t e))
entry_alike t front e made widths kept alike =
    let n = length e.1.rows in
    let name = (batch_name (map name_of front)).spell e.0 in
    let bytes : Batch → List (List VectorForm) → List ℕ = λ rows forms. name ++ (row_count.spell (length rows) ++ (batch_columns t (length rows)).spell forms) in
    let first : (batch t front).spell (entry_of e) ≡ bytes e.1.rows e.1.forms = batch_parts t front (entry_of e) in
    let second : (batch t front).spell (entry_of (e.0, made)) ≡ bytes e.1.rows made.forms = batch_parts t front (entry_of (e.0, made)) ∙ ap (λ (rows : Batch). bytes rows made.forms) kept in
    let third : (batch t front).spell (canonical_as_read t e) ≡ bytes e.1.rows (canonical_forms (widths_of t) e.1.rows) = batch_parts t front (canonical_as_read t e) in
    let old = (batch_columns t n).spell e.1.forms in
    let new = (batch_columns t n).spell made.forms in
    let all = (batch_columns t n).spell (canonical_forms (widths_of t) e.1.rows) in
    let columns : DifferAlike (row_count.spell n ++ old) (row_count.spell n ++ new) (row_count.spell n ++ all) = alike_before (row_count.spell n) old new all (alike t widths) in
    let whole : DifferAlike (bytes e.1.rows e.1.forms) (bytes e.1.rows made.forms) (bytes e.1.rows (canonical_forms (widths_of t) e.1.rows)) = alike_before name (row_count.spell n ++ old) (row_count.spell n ++ new) (row_count.spell n ++ all) columns in
    rw (first, second, third) whole

-- ---- all batches

all_before : (P : Held → Type 0) (es : List Held) (k : ℕ) → k ≤ length es → ((j : ℕ) (d : Held) → j < k → P (get_or es j d)) → All P (take k es)
all_before P es k inside h = λ j d below.
    let long = length-take-le k es inside in
    let less : j < k = omega (arith, below, long) in
    subst P (sym (get_or-take k es j d less)) (h j d less)

pub batches_alike : (t : Table) (old new : List Held) (k : ℕ) (e : Held) (made : SegmentForm) → All (IsStored t) old → k < length old → e ≡ get_or old k e → ((j : ℕ) (d : Held) → j < k → IsCanonicalHeld (get_or old j d))
    → length new ≡ length old → take k new ≡ take k old → get_or new k e ≡ (e.0, made) → made.rows ≡ e.1.rows → ColumnsDifferAlike e.1 made → DifferAlike (bytes_of t old) (bytes_of t new) (canonical_bytes_of t old)
batches_alike t old new k e made stored below is canonical long same put kept alike =
    let all : Held → Entry = canonical_as_read t in
    let xs = map entry_of old in
    let ys = map entry_of new in
    let zs = map all old in
    let d : Entry = entry_of e in
    let inside : k ≤ length old = omega (arith, below) in
    let long_xs : length xs ≡ length old = length-map old entry_of in
    let long_ys : length ys ≡ length old = length-map new entry_of ∙ long in
    let long_zs : length zs ≡ length old = length-map old all in
    let front_stored : All (IsStored t) (take k old) = all_before (λ (x : Held). IsStored t x) old k inside (λ j d less. stored j d (omega (arith, less, below))) in
    let front_canonical : All IsCanonicalHeld (take k old) = all_before IsCanonicalHeld old k inside canonical in
    let front_ys : take k ys ≡ take k xs = take-map entry_of k new ∙ ap (map entry_of) same ∙ sym (take-map entry_of k old) in
    let front_zs : take k zs ≡ take k xs = take-map all k old ∙ sym (canonical_items t (take k old) front_stored front_canonical) ∙ sym (take-map entry_of k old) in
    let in_new : k < length new = omega (arith, below, long) in
    let at_xs : get_or xs k d ≡ entry_of e = get_or-map entry_of old k e d below ∙ ap entry_of (sym is) in
    let at_ys : get_or ys k d ≡ entry_of (e.0, made) = get_or-map entry_of new k e d in_new ∙ ap entry_of put in
    let at_zs : get_or zs k d ≡ all e = get_or-map all old k e d below ∙ ap all (sym is) in
    let held = stored k e below in
    let widths : widths_in e.1.forms ≡ widths_of t = subst (λ (x : Held). widths_in x.1.forms ≡ widths_of t) (sym is) held.widths in
    let here = entry_alike t (take k xs) e made widths kept alike in
    let listed : DifferAlike (spell_all (batch t) [] xs) (spell_all (batch t) [] ys) (spell_all (batch t) [] zs) =
    all_alike (batch t) k d xs ys zs (omega (arith, below, long_xs)) (omega (arith, below, long_ys)) (omega (arith, below, long_zs)) front_ys front_zs (rw (at_xs, at_ys, at_zs) here) in
    let count = (number 4).spell (length old) in
    let text : List Entry → List ℕ = λ es. count ++ spell_all (batch t) [] es in
    let counted : (es : List Entry) → length es ≡ length old → (batches t).spell es ≡ text es = λ es many. batches_spelled t es ∙ ap (λ (n : ℕ). (number 4).spell n ++ spell_all (batch t) [] es) many in
    let whole : DifferAlike (text xs) (text ys) (text zs) = alike_before count (spell_all (batch t) [] xs) (spell_all (batch t) [] ys) (spell_all (batch t) [] zs) listed in
    rw (counted xs long_xs, counted ys long_ys, counted zs long_zs) whole

-- a place that was written to twice
pub set_twice : (es old : List Held) (k : ℕ) (a b d : Held) → es ≡ old → k < length old → (length (set (set es k a) k b) ≡ length old) × (take k (set (set es k a) k b) ≡ take k old) × (get_or (set (set es k a) k b) k d ≡ b)
set_twice es old k a b d same below =
    let long : length (set es k a) ≡ length old = length-set es k a ∙ ap length same in (
      length-set (set es k a) k b ∙ long,
      take-set (set es k a) k b ∙ take-set es k a ∙ ap (take k) same,
      get_or-set_same (set es k a) k b d (omega (arith, long, below)),
    )

-- what is read again at a place that was written to
pub read_again : (es old : List Held) (k : ℕ) (x e : Held) (s : SegmentForm) → es ≡ old → k < length old → x ≡ get_or es k x → s ≡ x.1 → e ≡ get_or (set es k (x.0, s)) k e → e ≡ get_or old k e
read_again es old k x e s same below found kept read =
    let pair : (x.0, s) ≡ x = (λ i. (x.0, kept i)) in
    let in_es : k < length es = omega (arith, ap length same, below) in
    let is : e ≡ x = read ∙ get_or-set_same es k (x.0, s) e in_es ∙ pair in
    is ∙ found ∙ ap (λ (xs : List Held). get_or xs k x) same ∙ get_or_default old k x e below
