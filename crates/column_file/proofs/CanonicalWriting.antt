-- The canonical file of a store's rows and deletions, from the segments that are held and the copies that were made.
use Rattle.std.proofs.Common.{◌≡◌, ℕ, ◌+◌, ◌<◌, List, [], ◌∷◌, ◌++◌, map, length, get_or, Option, None, Result, Err, inl, inr, refl, sym, ap, subst, ◌∙◌, arith}
use Rattle.std.specs.FinMap as finite
use Rattle.std.proofs.Math.Seq.{get_or-append_seam}
use Rattle.std.proofs.lemmas.Bool.{cases_lt}
use Rattle.std.proofs.lemmas.List.{get_or_append_left, length-append, length-map, map-append, get_or_default}
use Rattle.table_model.specs.Name.{name_cmp}
use Rattle.table_model.specs.State.{State, Batch}
use Rattle.table_model.specs.Table.{Table}
use Rattle.table_model.specs.declared.names.BatchName.{BatchName}
use Rattle.table_model.specs.declared.refusal.Refusal.{Refusal}
use Rattle.table_model.specs.declared.refusal.Refusal.TheVariants.{Memory, WriteFault}
use Rattle.catalogue_join.specs.RowRange.{RowRange}
use Rattle.segment_core.specs.Format.{Writes, number, all, spell_all}
use Rattle.segment_core.proofs.Writings.{spell_all-append, spell_all-cons, spell_all-nil}
use Rattle.segment_core.specs.Segment.{SegmentForm, widths_in, widths_of, canonical_forms, canonical_again}
use Rattle.segment_core.proofs.WidthLemmas.{widths_in-canonical}
use Rattle.replica_store.specs.Segments.{Entry as Held, IsStored, rows_in, rows_entries}
use Rattle.replica_store.proofs.RowsIn.{entries-rows_in}
use Rattle.column_file.specs.ContainerBytes.{Entry, entry_of, batch, batches, deleted_of, container}
use Rattle.column_file.proofs.ContainerWriting.{batch_anywhere, batches_spelled}
use Rattle.column_file.specs.Files.{file_of, ranges_of, canonical_entry, canonical_file, canonical_as_read, chosen, Exports}

-- a canonical segment is its own canonical form
pub canonical_itself : (s : SegmentForm) → s.forms ≡ canonical_forms (widths_in s.forms) s.rows → s ≡ canonical_again s
canonical_itself s e = λ i. record { rows = s.rows; forms = e i }

abbrev pub ChosenBelow : List Held → List (Option SegmentForm) → ℕ → Type 0
ChosenBelow entries made n = (i : ℕ) (d : Held) → i < n → chosen (get_or entries i d).1 (get_or made i None) ≡ canonical_again (get_or entries i d).1

-- one more copy
pub chosen_more : (entries : List Held) (made : List (Option SegmentForm)) (n : ℕ) (x : Option SegmentForm) (e : Held) → length made ≡ n → n < length entries → ChosenBelow entries made n → e ≡ get_or entries n e → chosen e.1 x ≡ canonical_again e.1
    → ChosenBelow entries (made ++ x ∷ []) (n + 1)
chosen_more entries made n x e long below before is here = λ i d le.
    elim (cases_lt i n) [
      | inl less ↦
          let same : get_or (made ++ x ∷ []) i None ≡ get_or made i None = get_or_append_left made (x ∷ []) None i (omega arith) in
          ap (chosen (get_or entries i d).1) same ∙ before i d less
      | inr past ↦
          let at : i ≡ length made = omega arith in
          let at_n : i ≡ n = omega arith in
          let last : get_or (made ++ x ∷ []) i None ≡ x = ap (λ (k : ℕ). get_or (made ++ x ∷ []) k None) at ∙ get_or-append_seam made x [] None in
          let entry : get_or entries i d ≡ e = ap (λ (k : ℕ). get_or entries k d) at_n ∙ get_or_default entries n d e below ∙ sym is in
          let P : Held → Type 0 = λ y. chosen y.1 x ≡ canonical_again y.1 in
          ap (chosen (get_or entries i d).1) last ∙ subst P (sym entry) here
    ]

-- what is written of a batch is the canonical segment of its rows
pub written_entry : (t : Table) (held : Held) (s : SegmentForm) → IsStored t held → s ≡ canonical_again held.1 → entry_of (held.0, s) ≡ canonical_as_read t held
written_entry t held s stored is =
    let widths = stored.widths in
    ap (λ (x : SegmentForm). entry_of (held.0, x)) is ∙ (λ i. (held.0, (length held.1.rows, canonical_forms (widths i) held.1.rows)))

pub written_widths : (t : Table) (held : Held) (s : SegmentForm) → IsStored t held → s ≡ canonical_again held.1 → widths_in s.forms ≡ widths_of t
written_widths t held s stored is =
    let batch = stored.fits in
    ap (λ (x : SegmentForm). widths_in x.forms) is ∙ widths_in-canonical (widths_in held.1.forms) held.1.rows batch.some ∙ stored.widths

canonical_list : (t : Table) (es : List Held) → map entry_of (map (canonical_entry t) (rows_entries es)) ≡ map (canonical_as_read t) es
canonical_list t [] = refl
canonical_list t (e ∷ es) = let rest = canonical_list t es in λ i. canonical_as_read t e ∷ rest i

pub canonical_spelled : (t : Table) (state : State) (segments : finite.FinMap name_cmp SegmentForm) (es : List Held) (rs : List RowRange) → state.batches ≡ rows_in segments → es ≡ finite.entries segments → ranges_of state.deleted ≡ rs
    → container.spell (t, (map (canonical_as_read t) es, map deleted_of rs)) ≡ canonical_file t state
unfolding file_of
canonical_spelled t state segments es rs batches entries ranges =
    let rows : finite.entries state.batches ≡ rows_entries es = ap finite.entries batches ∙ entries-rows_in segments ∙ ap rows_entries (sym entries) in
    let list : map entry_of (map (canonical_entry t) (finite.entries state.batches)) ≡ map (canonical_as_read t) es = ap (λ (xs : List (BatchName × Batch)). map entry_of (map (canonical_entry t) xs)) rows ∙ canonical_list t es in
    λ i. container.spell (t, (sym list i, map deleted_of (sym ranges i)))

-- what was written of a file is what an export writes
pub exports_from : (r : Result (Unit {0}) Refusal) (old new : Option (List ℕ)) (before after : ℕ) (bytes : List ℕ) → Writes r old new before after bytes → Exports r old new before after bytes
exports_from (Err Memory) old new before after bytes h = let wrong : Memory ≡ WriteFault = h.0 in absurd cc
exports_from other old new before after bytes h = h

-- ---- two parts

-- what is written of batches doesn't depend on those before them
anywhere : (t : Table) (front others es : List Entry) → spell_all (batch t) front es ≡ spell_all (batch t) others es
anywhere t front others [] = spell_all-nil (batch t) front ∙ sym (spell_all-nil (batch t) others)
anywhere t front others (e ∷ es) =
    spell_all-cons (batch t) front e es
    ∙ (λ i. batch_anywhere t front others e i ++ anywhere t (front ++ e ∷ []) (others ++ e ∷ []) es i)
    ∙ sym (spell_all-cons (batch t) others e es)

-- the batches of a file whose batches come in two parts: how many there are, the first part and the second
pub two_lists_spelled : (t : Table) (xs ys : List Held) → (batches t).spell (map (canonical_as_read t) (xs ++ ys))
    ≡ (number 4).spell (length xs + length ys) ++ ((all (length xs) (batch t)).spell (map (canonical_as_read t) xs) ++ (all (length ys) (batch t)).spell (map (canonical_as_read t) ys))
two_lists_spelled t xs ys =
    let f = canonical_as_read t in
    let count : length (map f (xs ++ ys)) ≡ length xs + length ys = length-map (xs ++ ys) f ∙ length-append xs ys in
    let parts : spell_all (batch t) [] (map f (xs ++ ys)) ≡ spell_all (batch t) [] (map f xs) ++ spell_all (batch t) [] (map f ys) =
    ap (spell_all (batch t) []) (map-append f xs ys) ∙ spell_all-append (batch t) [] (map f xs) (map f ys)
    ∙ ap (λ (bytes : List ℕ). spell_all (batch t) [] (map f xs) ++ bytes) (anywhere t (map f xs) [] (map f ys)) in
    batches_spelled t (map f (xs ++ ys)) ∙ (λ i. (number 4).spell (count i) ++ parts i)
