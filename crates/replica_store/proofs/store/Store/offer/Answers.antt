-- The batches that the summary lacks are those of the map that aren't listed.
use Rattle.std.specs.Prelude.{◌≡◌, Bool, true, cond, Result, Ok, Err}
use Rattle.std.proofs.Common.{arith, sym, ap, subst, ◌∙◌}
use Rattle.std.specs.FinMap as map
use Rattle.table_model.specs.Name.{name_cmp}
use Rattle.segment_core.specs.Segment.{SegmentForm}
use Rattle.table_model.specs.State.{State}
use Rattle.table_model.specs.Table.{Table, same_table}
use Rattle.table_model.specs.declared.refusal.Refusal.{Refusal}
use Rattle.table_model.specs.declared.refusal.Refusal.TheVariants.{SchemaDiffers}
use Rattle.replica_store.specs.Replica.{Replica, lacked_by}
use Rattle.replica_store.specs.Segments.{StoreForm, rows_in}
use Rattle.replica_store.specs.Exchange.{SummaryForm, AreOffered, unlisted, unlisted_state, offered}
use Rattle.replica_store.proofs.Maps.{as_map}
use Rattle.replica_store.proofs.Merges.{map_of_entries}
use Rattle.replica_store.proofs.Offers.{AreOffered-lacked, as_map-lacked, rows_in-unlisted}
use Rattle.replica_store.proofs.RowsIn.{len-rows_in}
use Rattle.replica_store.proofs.store.Store.offer.Goals as goal

pub from_parts-requires : goal.from_parts-requires
from_parts-requires c =
    let m : map.FinMap name_cmp SegmentForm = c.self.inside.batches.segments in
    let offered = AreOffered-lacked c.self.inside.schema c.names.result.now m c.self.invariant.stored (omega (arith, len-rows_in m, c.self.invariant.sound.within.limit)) in
    let copies = c.in_ok-entries.ensures ∙ ap (lacked_by c.names.result.now) c.parts.ensures.whole in
    subst (λ (t : Table). AreOffered t c.in_ok-entries.entries.items) (sym c.in_ok-schema.ensures) (subst (AreOffered c.self.inside.schema) (sym copies) offered)

pub returns-clause-segments : goal.returns-clause-segments
returns-clause-segments c =
    let copies = c.in_ok-entries.ensures ∙ ap (lacked_by c.names.result.now) c.parts.ensures.whole in
    sym (map_of_entries c.from_parts.result.segments) ∙ ap as_map (c.from_parts.ensures.entries ∙ copies)
    ∙ as_map-lacked c.names.result.now c.self.inside.batches.segments
    ∙ (λ i. unlisted (c.names.ensures.value i) (c.self.view_is i).segments)

-- an offer isn't refused where the tables are one
offered_ok : (r : Replica) (summary : SummaryForm) (s : State) → same_table r.schema summary.schema ≡ true → s ≡ unlisted_state summary.names r.state → offered r summary ≡ Ok s
offered_ok r summary s same is =
    ap (λ (b : Bool). cond b (Ok (unlisted_state summary.names r.state)) (Err SchemaDiffers)) same ∙ ap (λ (x : State). let ok : Result State Refusal = Ok x in ok) (sym is)

pub returns-clause-state : goal.returns-clause-state
returns-clause-state c =
    let copies = c.in_ok-entries.ensures ∙ ap (lacked_by c.names.result.now) c.parts.ensures.whole in
    let segments : c.from_parts.result.segments ≡ unlisted c.names.result.now c.self.inside.batches.segments =
    sym (map_of_entries c.from_parts.result.segments) ∙ ap as_map (c.from_parts.ensures.entries ∙ copies) ∙ as_map-lacked c.names.result.now c.self.inside.batches.segments in
    let batches : c.from_parts.result.state.batches ≡ unlisted c.args.summary.now.names c.args.self.now.replica.state.batches =
    c.from_parts.ensures.batches ∙ ap rows_in segments ∙ rows_in-unlisted c.names.result.now c.self.inside.batches.segments
    ∙ (λ i. unlisted (c.names.ensures.value i) (c.self.view_is i).replica.state.batches) in
    let deleted : c.from_parts.result.state.deleted ≡ c.args.self.now.replica.state.deleted =
    c.from_parts.ensures.deleted ∙ c.in_ok-tombs.ensures ∙ ap (λ (s : StoreForm). s.replica.state.deleted) c.self.view_is in
    let same : same_table c.args.self.now.replica.schema c.args.summary.now.schema ≡ true =
    (λ i. same_table (sym c.self.view_is i).replica.schema (sym c.schema.ensures i)) ∙ sym c.same.ensures ∙ c.if-not-same.false in
    offered_ok c.args.self.now.replica c.args.summary.now c.from_parts.result.state same (λ i. record { batches = batches i; deleted = deleted i })
