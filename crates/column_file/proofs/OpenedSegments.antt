-- A canonical file opens to canonical segments, or the call that opens it is refused.
use Rattle.std.proofs.Common.{◌≡◌, ℕ, suc, ◌==◌, Bool, true, false, cond, All, List, [], ◌∷◌, map, Result, Ok, Err, IfOk, inl, inr, sym, ap, subst, refl, ◌∙◌, arith}
use Rattle.std.specs.FinMap as finite
use Rattle.table_model.specs.Outcome.{Gives}
use Rattle.table_model.specs.Reading.{◌>>=◌, Reads}
use Rattle.table_model.specs.State.{Batch}
use Rattle.table_model.specs.Table.{Table}
use Rattle.table_model.specs.declared.names.BatchName.{BatchName}
use Rattle.table_model.specs.declared.names.Origin.{Origin}
use Rattle.table_model.specs.declared.refusal.Refusal.{Refusal}
use Rattle.table_model.specs.declared.refusal.Refusal.TheVariants.{BadName}
use Rattle.segment_core.specs.Segment.{widths_in, widths_of, canonical_forms}
use Rattle.replica_store.specs.Replica.{Replica}
use Rattle.replica_store.specs.Segments.{Entry as Held, StoreForm, IsStored, rows_in, rows_entries}
use Rattle.replica_store.specs.Exchange.{OfferForm, AreOffered, offering, opened}
use Rattle.column_file.specs.Files.{canonical_entry, canonical_read, opened_from, AreCanonicalOf, IsCanonicalHeld}
use Rattle.column_file.specs.Input.{is_fault_of_file}
use Rattle.column_file.proofs.FaultsOfBytes.{Judged, then_judged}
use Rattle.column_file.proofs.HasFiles.{entries_are}
use Rattle.column_file.proofs.Openings.{canonical_read_judged}

-- ---- batches that were read canonical

canonical_entries : (t : Table) (items : List Held) → All (IsStored t) items → All IsCanonicalHeld items → items ≡ map (canonical_entry t) (rows_entries items)
canonical_entries t [] stored canonical = refl
canonical_entries t (e ∷ items) stored canonical =
    let here = stored 0 e (omega arith) in
    let form : e.1.forms ≡ canonical_forms (widths_in e.1.forms) e.1.rows = canonical 0 e (omega arith) in
    let same : e.1.forms ≡ canonical_forms (widths_of t) e.1.rows = form ∙ ap (λ (ws : List ℕ). canonical_forms ws e.1.rows) here.widths in
    let rest = canonical_entries t items (λ k d below. stored (suc k) d (omega (arith, below))) (λ k d below. canonical (suc k) d (omega (arith, below))) in
    λ i. (e.0, record { rows = e.1.rows; forms = same i }) ∷ rest i

pub canonical_segments : (o : OfferForm) (items : List Held) → AreOffered o.schema items → o.state.batches ≡ rows_in o.segments → finite.entries o.segments ≡ items → All IsCanonicalHeld items → AreCanonicalOf o.schema o.state.batches o.segments
canonical_segments o items offered batches entries canonical =
    entries ∙ canonical_entries o.schema items offered.stored canonical
    ∙ ap (λ (es : List (BatchName × Batch)). map (canonical_entry o.schema) es) (sym (entries_are o.state.batches o.segments items batches entries))

-- ---- the store of an offer

replica_is : (b : Bool) (r s : Replica) → cond b (Err BadName) (Ok r) ≡ Ok s → r ≡ s
replica_is true r s e = absurd cc
replica_is false r s e = cc

pub opened_segments : (own : Origin) (o : OfferForm) (r : Result StoreForm Refusal) → Gives (λ (s : StoreForm). s.replica) r (opened own o) → IfOk r (λ (s : StoreForm). s.segments ≡ o.segments) → AreCanonicalOf o.schema o.state.batches o.segments
    → IfOk r (λ (s : StoreForm). AreCanonicalOf s.replica.schema s.replica.state.batches s.segments)
opened_segments own o (Err e) given same canonical = tt
opened_segments own o (Ok s) given same canonical =
    let replica : offering own o ≡ s.replica = replica_is (own.0 == 0) (offering own o) s.replica given in
    ap finite.entries same ∙ canonical ∙ ap (λ (r : Replica). map (canonical_entry r.schema) (finite.entries r.state.batches)) replica

-- ---- what a call that opens a file answers

gives_reads : {X Y : Type 0} (view : X → Y) (r : Result X Refusal) (meaning : Result Y Refusal) → Gives view r meaning → Reads view r meaning
gives_reads view (Ok x) meaning given = given
gives_reads view (Err e) meaning (inl refused) = inl refused
gives_reads view (Err e) meaning (inr lack) = inr lack.0

pub opened_reads : (own : Origin) (bytes : List ℕ) (o : OfferForm) (r : Result StoreForm Refusal) → canonical_read bytes ≡ Ok o → Gives (λ (s : StoreForm). s.replica) r (opened own o) → Reads (λ (s : StoreForm). s.replica) r (opened_from own bytes)
opened_reads own bytes o r is given =
    let meaning : Result OfferForm Refusal → Result Replica Refusal = λ read. cond (own.0 == 0) (Err BadName) (read >>= λ (o : OfferForm). Ok (offering own o)) in
    let P : Result Replica Refusal → Type 0 = λ m. Reads (λ (s : StoreForm). s.replica) r m in
    subst P (sym (ap meaning is)) (gives_reads (λ (s : StoreForm). s.replica) r (opened own o) given)

pub opened_from_judged : (own : Origin) (bytes : List ℕ) → Judged is_fault_of_file (opened_from own bytes)
opened_from_judged own bytes = go (own.0 == 0)
  where
    go : (b : Bool) → Judged is_fault_of_file (cond b (Err BadName) (canonical_read bytes >>= λ (o : OfferForm). Ok (offering own o)))
    go true = refl
    go false = then_judged is_fault_of_file (canonical_read bytes) (λ (o : OfferForm). Ok (offering own o)) (canonical_read_judged bytes) (λ o. tt)
