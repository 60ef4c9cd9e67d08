-- The vector's place is the map's, and each of the map's batches has a proper name and rows that fit.
use Rattle.std.specs.Prelude.{◌≡◌, ℕ, ◌<◌, Some}
use Rattle.std.proofs.Common.{arith, sym, ap, subst, ◌∙◌}
use Rattle.std.specs.FinMap as map
use Rattle.std.specs.List.{slice_get}
use Rattle.table_model.specs.Name.{name_cmp}
use Rattle.table_model.specs.Table.{IsBatch}
use Rattle.segment_core.specs.Segment.{SegmentForm, widths_of}
use Rattle.replica_store.specs.Replica.{entries_of}
use Rattle.replica_store.specs.Segments.{StoreForm, Entry, rows_in}
use Rattle.replica_store.proofs.RowsIn.{entries-rows_in, len-rows_in, slice_get-rows}
use Rattle.replica_store.proofs.Stored.{IsStored-at}
use Rattle.replica_store.proofs.store.Store.batch.Goals as goal

-- the rows of a segment are the replica's batch there
read_rows : (m : map.FinMap name_cmp SegmentForm) (index : ℕ) (e : Entry) → slice_get (map.entries m) index ≡ Some e → slice_get (map.entries (rows_in m)) index ≡ Some (e.0, e.1.rows)
read_rows m index e is = ap (λ es. slice_get es index) (entries-rows_in m) ∙ slice_get-rows (map.entries m) index e is

pub at-requires : goal.at-requires
at-requires c =
    let below : c.args.index < map.len (rows_in c.self.inside.batches.segments) = subst (λ (s : StoreForm). c.args.index < map.len s.replica.state.batches) (sym c.self.view_is) c.requires in
    omega (arith, below, len-rows_in c.self.inside.batches.segments)

pub returns-clause-segment : goal.returns-clause-segment
returns-clause-segment c = ap (λ (s : StoreForm). slice_get (map.entries s.segments) c.args.index) (sym c.self.view_is) ∙ c.at.ensures

pub returns-clause-value : goal.returns-clause-value
returns-clause-value c = ap (λ (s : StoreForm). slice_get (entries_of s.replica) c.args.index) (sym c.self.view_is) ∙ read_rows c.self.inside.batches.segments c.args.index (c.at.result.0, c.at.result.1.now) c.at.ensures

pub returns-clause-proper : goal.returns-clause-proper
returns-clause-proper c =
    let here = IsStored-at c.self.inside.schema c.self.inside.batches.segments c.args.index (c.at.result.0, c.at.result.1.now) c.self.invariant.stored c.at.ensures in here.proper

pub returns-clause-fits : goal.returns-clause-fits
returns-clause-fits c =
    let here = IsStored-at c.self.inside.schema c.self.inside.batches.segments c.args.index (c.at.result.0, c.at.result.1.now) c.self.invariant.stored c.at.ensures in
    subst (λ (s : StoreForm). IsBatch s.replica.schema c.at.result.1.now.rows) c.self.view_is here.fits

pub returns-clause-widths : goal.returns-clause-widths
returns-clause-widths c =
    let here = IsStored-at c.self.inside.schema c.self.inside.batches.segments c.args.index (c.at.result.0, c.at.result.1.now) c.self.invariant.stored c.at.ensures in
    here.widths ∙ ap (λ (s : StoreForm). widths_of s.replica.schema) c.self.view_is

pub returns-clause-valid : goal.returns-clause-valid
returns-clause-valid c =
    let here = IsStored-at c.self.inside.schema c.self.inside.batches.segments c.args.index (c.at.result.0, c.at.result.1.now) c.self.invariant.stored c.at.ensures in
    c.keeps_its_vectors.ensures.valid c.args.self.now.replica.schema (here.widths ∙ ap (λ (s : StoreForm). widths_of s.replica.schema) c.self.view_is)
