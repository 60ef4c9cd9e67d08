-- The limits are kept: by a batch that goes in, and where none does.
use Rattle.std.proofs.Common.{sym, ap, subst, ◌∙◌, ◌≡◌, ◌<◌}
use Rattle.std.specs.FinMap as map
use Rattle.table_model.specs.Name.{name_cmp}
use Rattle.table_model.specs.State.{Batch}
use Rattle.table_model.specs.Table.{IsBatch}
use Rattle.segment_core.specs.Segment.{widths_in, widths_of}
use Rattle.replica_store.specs.Replica.{IsWithinLimits, with_batch, batch_limit}
use Rattle.replica_store.specs.Segments.{BatchesForm, StoreForm, IsSoundStore, IsStored, AreStored, rows_in}
use Rattle.replica_store.proofs.Limits.{IsWithinLimits-insert}
use Rattle.replica_store.proofs.RowsIn.{rows_in-insert, unheld}
use Rattle.replica_store.proofs.Stored.{AreStored-insert}
use Rattle.replica_store.proofs.store.Store.put.Goals as goal

pub insert-requires-clause-new : goal.insert-requires-clause-new
insert-requires-clause-new c = unheld c.self.inside.batches.segments c.args.name (ap (λ (s : StoreForm). map.get s.replica.state.batches c.args.name) c.self.view_is ∙ c.requires.new)

pub invariant_of-self : goal.invariant_of-self
invariant_of-self c = subst (λ (b : BatchesForm). IsSoundStore c.self.inside.schema c.self.inside.own b) (sym c.in_err-insert.ensures.err) c.self.invariant

pub invariant_of-self-2 : goal.invariant_of-self-2
invariant_of-self-2 c =
    let none = ap (λ (s : StoreForm). map.get s.replica.state.batches c.args.name) c.self.view_is ∙ c.requires.new in
    let room : map.len (rows_in c.self.inside.batches.segments) < batch_limit = subst (λ (s : StoreForm). map.len s.replica.state.batches < batch_limit) (sym c.self.view_is) c.requires.room in
    let fit : IsBatch c.self.inside.schema c.args.segment.rows = subst (λ (s : StoreForm). IsBatch s.replica.schema c.args.segment.rows) (sym c.self.view_is) c.requires.fit in
    let widths : widths_in c.args.segment.forms ≡ widths_of c.self.inside.schema = subst (λ (s : StoreForm). widths_in c.args.segment.forms ≡ widths_of s.replica.schema) (sym c.self.view_is) c.requires.widths in
    let all = ap rows_in c.in_ok-insert.ensures.ok ∙ rows_in-insert c.self.inside.batches.segments c.args.name c.args.segment in
    let new : IsStored c.self.inside.schema (c.args.name, c.args.segment) = record { proper = c.requires.proper; fits = fit; widths = widths } in
    record {
      sound = record {
        own_proper = c.self.invariant.sound.own_proper;
        within = subst (λ (m : map.FinMap name_cmp Batch). IsWithinLimits c.self.inside.schema m) (sym all)
            (IsWithinLimits-insert c.self.inside.schema (rows_in c.self.inside.batches.segments) c.args.name c.args.segment.rows c.self.invariant.sound.within none room (record { proper = c.requires.proper; fits = fit }));
      };
      stored = subst (AreStored c.self.inside.schema) (sym c.in_ok-insert.ensures.ok) (AreStored-insert c.self.inside.schema c.self.inside.batches.segments c.args.name c.args.segment c.self.invariant.stored new);
      parted = c.in_ok-insert.ensures.own ∙ c.self.invariant.parted;
    }

pub returns-clause-ok : goal.returns-clause-ok
returns-clause-ok c =
    let all = ap rows_in c.in_ok-insert.ensures.ok ∙ rows_in-insert c.self.inside.batches.segments c.args.name c.args.segment in
    (λ i. record { schema = c.self.inside.schema; own = c.self.inside.own; state = record { batches = all i; deleted = c.self.inside.tombs } })
    ∙ ap (λ (s : StoreForm). with_batch s.replica c.args.name c.args.segment.rows) c.self.view_is

pub returns-clause-segments : goal.returns-clause-segments
returns-clause-segments c = c.in_ok-insert.ensures.ok ∙ ap (λ (s : StoreForm). map.insert s.segments c.args.name c.args.segment) c.self.view_is
