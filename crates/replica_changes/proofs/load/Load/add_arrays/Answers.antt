-- Rows that fit have no fault, so the load has one batch more if there is room.
use Rattle.std.proofs.Common.{◌≡◌, ◌<◌, ◌≤◌, inl, inr, Bool, true, false, cond, nat_lt, List, [], ◌∷◌, ◌++◌, map, length, Result, Ok, Err, sym, ap, subst, ◌∙◌, arith}
use Rattle.std.proofs.lemmas.Bool.Decides.{nat_tests}
use Rattle.std.proofs.lemmas.List.{length-map, map-append}
use Rattle.table_model.specs.State.{Batch}
use Rattle.table_model.specs.Table.{Table, IsBatch}
use Rattle.table_model.specs.declared.refusal.Refusal.{Refusal}
use Rattle.table_model.specs.declared.refusal.Refusal.TheVariants.{Full}
use Rattle.segment_core.specs.Arrays.{array_rows}
use Rattle.segment_core.specs.Segment.{SegmentForm}
use Rattle.replica_store.specs.Replica.{batch_limit}
use Rattle.replica_changes.specs.Loads.{LoadForm, batches_in}
use Rattle.replica_changes.proofs.ArrayLoads.{added_if_room, with_batch}
use Rattle.replica_changes.proofs.load.Load.add_arrays.Goals as goal

pub returns-then-len-ge-MAX_BATCHES-clause-refused : goal.returns-then-len-ge-MAX_BATCHES-clause-refused
returns-then-len-ge-MAX_BATCHES-clause-refused c =
    let load : LoadForm = c.args.self.now in
    let rows : Batch = array_rows c.args.rows c.args.arrays.now in
    let batch : IsBatch load.schema rows = subst (λ (l : LoadForm). IsBatch l.schema rows) c.self.view_is (c.are_batch.ensures c.if-not-are_batch.false) in
    let count : length load.batches ≡ length c.self.inside.segments.items = ap (λ (l : LoadForm). length l.batches) (sym c.self.view_is) ∙ length-map c.self.inside.segments.items (λ (s : SegmentForm). s.rows) in
    let full : nat_lt (length load.batches) batch_limit ≡ false = grind (arith, nat_tests, count, c.len.ensures, c.if-len-ge-MAX_BATCHES.true) in
    inr (added_if_room load rows batch ∙ ap (λ (b : Bool). cond b (Ok (tt, with_batch load rows)) (Err Full)) full)

pub returns-clause-added : goal.returns-clause-added
returns-clause-added c =
    let load : LoadForm = c.args.self.now in
    let rows : Batch = array_rows c.args.rows c.args.arrays.now in
    let batch : IsBatch load.schema rows = subst (λ (l : LoadForm). IsBatch l.schema rows) c.self.view_is (c.are_batch.ensures c.if-not-are_batch.false) in
    let count : length load.batches ≡ length c.self.inside.segments.items = ap (λ (l : LoadForm). length l.batches) (sym c.self.view_is) ∙ length-map c.self.inside.segments.items (λ (s : SegmentForm). s.rows) in
    let room : nat_lt (length load.batches) batch_limit ≡ true = grind (arith, nat_tests, count, c.len.ensures, c.if-len-ge-MAX_BATCHES.false) in
    let same : c.in_ok-segment.segment.rows ≡ rows = ap (λ (s : SegmentForm). s.rows) c.in_ok-segment.ensures.value in
    let items : c.push.new.self.items ≡ c.self.inside.segments.items ++ (c.in_ok-segment.segment ∷ []) = c.in_ok-push.ensures.items in
    let batches : batches_in c.push.new.self.items ≡ load.batches ++ (rows ∷ []) =
    ap batches_in items
    ∙ map-append (λ (s : SegmentForm). s.rows) c.self.inside.segments.items (c.in_ok-segment.segment ∷ [])
    ∙ ap (λ (r : Batch). batches_in c.self.inside.segments.items ++ (r ∷ [])) same
    ∙ ap (λ (l : LoadForm). l.batches ++ (rows ∷ [])) c.self.view_is in
    added_if_room load rows batch
    ∙ ap (λ (b : Bool). cond b (Ok (tt, with_batch load rows)) (Err Full)) room
    ∙ sym (ap (λ (l : LoadForm). let made : Result (Unit {0} × LoadForm) Refusal = Ok (tt, l) in made) (λ i. record { schema = (c.self.view_is i).schema; batches = batches i }))
