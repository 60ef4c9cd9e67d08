-- The vector's place is the map's, and each batch of the offer may be held by a store.
use Rattle.std.specs.Prelude.{◌≡◌, ℕ, ◌<◌, List, length, Some}
use Rattle.std.proofs.Common.{arith, get_or, refl, sym, ap, subst, ◌∙◌}
use Rattle.std.specs.FinMap as map
use Rattle.std.specs.List.{slice_get}
use Rattle.std.proofs.lemmas.Option.{slice_get_read}
use Rattle.replica_store.specs.Exchange.{OfferForm, AreOffered}
use Rattle.replica_store.specs.Segments.{Entry, IsStored, rows_in, rows_entries}
use Rattle.replica_store.proofs.RowsIn.{entries-rows_in, len-rows_in, slice_get-rows}
use Rattle.replica_store.proofs.offer.Offer.batch.Goals as goal

-- there are as many entries as batches
count : (o : OfferForm) (es : List Entry) (index : ℕ) → es ≡ map.entries o.segments → o.state.batches ≡ rows_in o.segments → index < map.len o.state.batches → index < length es
count o es index is rows below = omega (arith, below, ap map.len rows, len-rows_in o.segments, map.len-entries o.segments, ap length is)

-- what is read at a place is the entry there
read : (es : List Entry) (index : ℕ) (e : Entry) → index < length es → e ≡ get_or es index e → slice_get es index ≡ Some e
read es index e below is = slice_get_read es (length es) index e refl below is

-- and a store may hold it
stored : (o : OfferForm) (es : List Entry) (index : ℕ) (e : Entry) → AreOffered o.schema es → index < length es → e ≡ get_or es index e → IsStored o.schema e
stored o es index e offered below is = subst (IsStored o.schema) (sym is) (offered.stored index e below)

pub bounds-entries-index : goal.bounds-entries-index
bounds-entries-index c = count c.args.self.now c.entries.result.now c.args.index c.entries.ensures.value c.entries.ensures.rows c.requires

pub offset_bounds-entries-index : goal.offset_bounds-entries-index
offset_bounds-entries-index c =
    let below = count c.args.self.now c.entries.result.now c.args.index c.entries.ensures.value c.entries.ensures.rows c.requires in
    omega (arith, below, c.entries.ensures.offered.limit)

pub returns-clause-segment : goal.returns-clause-segment
returns-clause-segment c =
    let below = count c.args.self.now c.entries.result.now c.args.index c.entries.ensures.value c.entries.ensures.rows c.requires in
    ap (λ (xs : List Entry). slice_get xs c.args.index) (sym c.entries.ensures.value) ∙ read c.entries.result.now c.args.index c.index-entries-index.result below c.index-entries-index.is

pub returns-clause-value : goal.returns-clause-value
returns-clause-value c =
    let below = count c.args.self.now c.entries.result.now c.args.index c.entries.ensures.value c.entries.ensures.rows c.requires in
    ap (λ xs. slice_get xs c.args.index) (ap map.entries c.entries.ensures.rows ∙ entries-rows_in c.args.self.now.segments ∙ ap rows_entries (sym c.entries.ensures.value))
    ∙ slice_get-rows c.entries.result.now c.args.index c.index-entries-index.result (read c.entries.result.now c.args.index c.index-entries-index.result below c.index-entries-index.is)

pub returns-clause-proper : goal.returns-clause-proper
returns-clause-proper c =
    let below = count c.args.self.now c.entries.result.now c.args.index c.entries.ensures.value c.entries.ensures.rows c.requires in
    let here = stored c.args.self.now c.entries.result.now c.args.index c.index-entries-index.result c.entries.ensures.offered below c.index-entries-index.is in here.proper

pub returns-clause-fits : goal.returns-clause-fits
returns-clause-fits c =
    let below = count c.args.self.now c.entries.result.now c.args.index c.entries.ensures.value c.entries.ensures.rows c.requires in
    let here = stored c.args.self.now c.entries.result.now c.args.index c.index-entries-index.result c.entries.ensures.offered below c.index-entries-index.is in here.fits

pub returns-clause-widths : goal.returns-clause-widths
returns-clause-widths c =
    let below = count c.args.self.now c.entries.result.now c.args.index c.entries.ensures.value c.entries.ensures.rows c.requires in
    let here = stored c.args.self.now c.entries.result.now c.args.index c.index-entries-index.result c.entries.ensures.offered below c.index-entries-index.is in here.widths

pub returns-clause-valid : goal.returns-clause-valid
returns-clause-valid c =
    let below = count c.args.self.now c.entries.result.now c.args.index c.entries.ensures.value c.entries.ensures.rows c.requires in
    let here = stored c.args.self.now c.entries.result.now c.args.index c.index-entries-index.result c.entries.ensures.offered below c.index-entries-index.is in
    c.keeps_its_vectors.ensures.valid c.args.self.now.schema here.widths
