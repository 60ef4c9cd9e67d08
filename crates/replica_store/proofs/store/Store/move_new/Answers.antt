-- What is kept of the offer's entries is what isn't listed of its batches.
use Rattle.std.specs.Prelude.{◌≤◌}
use Rattle.std.proofs.Common.{sym, ap, subst, ◌∙◌}
use Rattle.std.specs.List.{All}
use Rattle.std.specs.FinMap as map
use Rattle.table_model.specs.Name.{name_cmp}
use Rattle.table_model.specs.State.{Batch, union_of}
use Rattle.table_model.specs.Table.{Table}
use Rattle.replica_store.specs.Replica.{batch_limit, joined_with}
use Rattle.replica_store.specs.Segments.{AreStored, HasProperName}
use Rattle.replica_store.proofs.Brings.{kept_is, kept_offered, kept_proper, kept_rows, kept_stored}
use Rattle.replica_store.proofs.Maps.{Sorted, as_map}
use Rattle.replica_store.proofs.Putting.{OnOk_then}
use Rattle.replica_store.proofs.store.Store.move_new.Goals as goal

pub names_held-requires-clause-sorted : goal.names_held-requires-clause-sorted
names_held-requires-clause-sorted c =
    let kept = kept_offered c.args.offer.schema c.args.names.now c.into_parts-entries.result.0.items c.keep_lacked.new.batches.items c.into_parts-entries.ensures.offered c.keep_lacked.ensures in
    subst Sorted (sym c.as_slice.ensures.value) kept.sorted

pub names_held-requires-clause-proper : goal.names_held-requires-clause-proper
names_held-requires-clause-proper c =
    let kept = kept_offered c.args.offer.schema c.args.names.now c.into_parts-entries.result.0.items c.keep_lacked.new.batches.items c.into_parts-entries.ensures.offered c.keep_lacked.ensures in
    subst (All HasProperName) (sym c.as_slice.ensures.value) (kept_proper c.args.offer.schema c.keep_lacked.new.batches.items kept)

pub move_all-requires-clause-sorted : goal.move_all-requires-clause-sorted
move_all-requires-clause-sorted c =
    let kept = kept_offered c.args.offer.schema c.args.names.now c.into_parts-entries.result.0.items c.keep_lacked.new.batches.items c.into_parts-entries.ensures.offered c.keep_lacked.ensures in kept.sorted

pub move_all-requires-clause-stored : goal.move_all-requires-clause-stored
move_all-requires-clause-stored c =
    let kept = kept_offered c.args.offer.schema c.args.names.now c.into_parts-entries.result.0.items c.keep_lacked.new.batches.items c.into_parts-entries.ensures.offered c.keep_lacked.ensures in
    subst (λ (t : Table). AreStored t (as_map c.keep_lacked.new.batches.items)) (sym c.requires.schema) (kept_stored c.args.offer.schema c.keep_lacked.new.batches.items kept)

pub move_all-requires-clause-limit : goal.move_all-requires-clause-limit
move_all-requires-clause-limit c =
    let rows = kept_rows c.args.names.now c.args.offer c.into_parts-entries.result.0.items c.keep_lacked.new.batches.items c.into_parts-entries.ensures.value c.into_parts-entries.ensures.rows c.keep_lacked.ensures in
    subst (λ (m : map.FinMap name_cmp Batch). map.len (union_of c.args.self.now.replica.state.batches m) ≤ batch_limit) (sym rows) c.requires.limit

pub returns-clause-ok : goal.returns-clause-ok
returns-clause-ok c =
    let rows = kept_rows c.args.names.now c.args.offer c.into_parts-entries.result.0.items c.keep_lacked.new.batches.items c.into_parts-entries.ensures.value c.into_parts-entries.ensures.rows c.keep_lacked.ensures in
    OnOk_then c.move_all.result (λ made. made ∙ (λ i. joined_with c.args.self.now.replica (record { batches = rows i; deleted = c.into_parts-entries.ensures.tombs i }))) c.move_all.ensures.ok

pub returns-clause-segments : goal.returns-clause-segments
returns-clause-segments c =
    OnOk_then c.move_all.result (λ made. made ∙ ap (union_of c.args.self.now.segments) (kept_is c.args.names.now c.args.offer c.into_parts-entries.result.0.items c.keep_lacked.new.batches.items c.into_parts-entries.ensures.value c.keep_lacked.ensures)) c.move_all.ensures.segments
