-- The reader is read whole, and the store is the one that its bytes open to.
use Rattle.std.proofs.Common.{List, ℕ, Err, refl, subst, rules}
use Rattle.std.proofs.lemmas.Result.{err_from_is_err_and}
use Rattle.table_model.specs.Reading.{Reads}
use Rattle.replica_store.specs.Exchange.{OfferForm}
use Rattle.replica_store.specs.declared.store.Store.{Store}
use Rattle.column_file.specs.Files.{canonical_read, opened_from}
use Rattle.column_file.specs.FirstVersion.{opened_from_1}
use Rattle.column_file.specs.Input.{is_fault_of_file}
use Rattle.column_file.proofs.FaultsOfBytes.{reads_judged}
use Rattle.column_file.proofs.FirstLaws.{first_files_open, keeps_first}
use Rattle.column_file.proofs.Inputs.{judged, unread, unread_stops}
use Rattle.column_file.proofs.Openings.{canonical_read_judged}
use Rattle.column_file.proofs.OpenedSegments.{opened_segments, opened_reads, opened_from_judged}
use Rattle.column_file.proofs.opening.open.Goals as goal

pub returns-in_err-input-clause-read : goal.returns-in_err-input-clause-read
returns-in_err-input-clause-read g c =
    let p = err_from_is_err_and c.from_residual.result c.from_residual.ensures.1 in
    rw (p.1, p.2) (unread (λ (store : Store). store.replica) c.in_err-input.field-0.0 (g.R.Read.remaining c.args.reader.now.0) (opened_from c.args.own) c.in_err-input.ensures.reads.listed)

pub returns-in_err-input-clause-first : goal.returns-in_err-input-clause-first
returns-in_err-input-clause-first g c =
    keeps_first (λ (store : Store). store.replica) c.from_residual.result (g.R.Read.remaining c.args.reader.now.0) (opened_from_1 c.args.own) (opened_from c.args.own) (first_files_open c.args.own) (returns-in_err-input-clause-read g c)

pub returns-in_err-input-clause-reads : goal.returns-in_err-input-clause-reads
returns-in_err-input-clause-reads g c =
    let p = err_from_is_err_and c.from_residual.result c.from_residual.ensures.1 in
    λ proper. rw (p.1, p.2) (unread_stops g.R.Read.remaining is_fault_of_file c.args.reader.now c.read_input.new.reader c.in_err-input.field-0.0 c.in_err-input.ensures.reads)

pub returns-in_err-offer-clause-read : goal.returns-in_err-offer-clause-read
returns-in_err-offer-clause-read g c = search rules

pub returns-in_err-offer-clause-first : goal.returns-in_err-offer-clause-first
returns-in_err-offer-clause-first g c =
    keeps_first (λ (store : Store). store.replica) c.from_residual-in_err-offer.result (g.R.Read.remaining c.args.reader.now.0) (opened_from_1 c.args.own) (opened_from c.args.own) (first_files_open c.args.own) (returns-in_err-offer-clause-read g c)

pub returns-in_err-offer-clause-reads : goal.returns-in_err-offer-clause-reads
returns-in_err-offer-clause-reads g c =
    let p = err_from_is_err_and c.from_residual-in_err-offer.result c.from_residual-in_err-offer.ensures.1 in
    λ proper. rw (p.1, p.2) (reads_judged {X = OfferForm} g.R.Read.remaining is_fault_of_file (λ (x : OfferForm). x) c.args.reader.now c.read_input.new.reader (Err c.in_err-offer.field-0.0) (canonical_read c.as_slice.result.now) refl c.in_ok-input.ensures.reads c.in_err-offer.ensures.read (canonical_read_judged c.as_slice.result.now))

pub returns-clause-read : goal.returns-clause-read
returns-clause-read g c =
    let P : List ℕ → Type 0 = λ bytes. Reads (λ (store : Store). store.replica) c.into_store.result (opened_from c.args.own bytes) in
    judged (λ (store : Store). store.replica) c.into_store.result (g.R.Read.remaining c.args.reader.now.0) (g.R.Read.remaining c.read_input.new.reader.0) c.in_ok-input.input.items (opened_from c.args.own) c.in_ok-input.ensures.bytes c.in_ok-input.ensures.reads.end
    (subst P c.as_slice.ensures.value (opened_reads c.args.own c.as_slice.result.now c.in_ok-offer.offer c.into_store.result c.in_ok-offer.ensures.read c.into_store.ensures.value))

pub returns-clause-first : goal.returns-clause-first
returns-clause-first g c = keeps_first (λ (store : Store). store.replica) c.into_store.result (g.R.Read.remaining c.args.reader.now.0) (opened_from_1 c.args.own) (opened_from c.args.own) (first_files_open c.args.own) (returns-clause-read g c)

pub returns-clause-segments : goal.returns-clause-segments
returns-clause-segments g c = opened_segments c.args.own c.in_ok-offer.offer c.into_store.result c.into_store.ensures.value c.into_store.ensures.segments c.in_ok-offer.ensures.segments

pub returns-clause-reads : goal.returns-clause-reads
returns-clause-reads g c = λ proper.
    reads_judged g.R.Read.remaining is_fault_of_file (λ (store : Store). store.replica) c.args.reader.now c.read_input.new.reader c.into_store.result (opened_from c.args.own c.as_slice.result.now) refl c.in_ok-input.ensures.reads
    (opened_reads c.args.own c.as_slice.result.now c.in_ok-offer.offer c.into_store.result c.in_ok-offer.ensures.read c.into_store.ensures.value) (opened_from_judged c.args.own c.as_slice.result.now)
