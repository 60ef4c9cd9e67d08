-- The segments of a cluster have the rows of its parts: what a step makes of the segments at a place has the rows of what it makes of the parts there.
use Rattle.std.specs.Prelude.{◌≡◌, ◌⊎◌, ℕ, zero, suc, ◌+◌, ◌==◌, true, false, cond, List, [], ◌∷◌, ◌++◌, length, map, replicate, slice_get, slice_set, Option, Some, None, option_map, option_and_then, Result, Ok, Err}
use Rattle.std.specs.FinMap as finite
use Rattle.std.proofs.Common.{refl, sym, ap, subst, ◌∙◌, inl, inr, arith}
use Rattle.std.proofs.Math.Seq.{map-set_same}
use Rattle.std.proofs.lemmas.Bool.Decides.{nat_tests}
use Rattle.std.proofs.lemmas.List.{length-map, map-append, map-set}
use Rattle.std.proofs.lemmas.Option.{get_or_from_slice_get}
use Rattle.table_model.specs.Name.{name_cmp}
use Rattle.table_model.specs.State.{State, Batch, union_of}
use Rattle.table_model.specs.Table.{Table, same_table}
use Rattle.table_model.specs.declared.names.BatchName.{BatchName}
use Rattle.table_model.specs.declared.names.RowName.{RowName}
use Rattle.table_model.specs.declared.refusal.Refusal.{Refusal}
use Rattle.table_model.specs.declared.refusal.Refusal.TheVariants.{NoSuchReplica, NoSuchMessage, NoSuchVector, SchemaDiffers}
use Rattle.segment_core.specs.CodedVector.{VectorForm}
use Rattle.segment_core.specs.Segment.{SegmentForm, canonical_segment, vector_at, recoded, recoded_found, put_in}
use Rattle.segment_core.specs.declared.coding.Coding.{Coding}
use Rattle.replica_store.specs.Exchange.{OfferForm, summary_of, unlisted, unlisted_state, offered, offering}
use Rattle.replica_store.specs.Replica.{Replica, appended, then_added, next_name, inserted, then_placed, place_for, with_batch, with_deleted, with_join, rows_between, deleted_rows, delete_fault, recoded_rows, recode_fault, merged, merge_fault}
use Rattle.replica_store.specs.Segments.{Segments, rows_entries, rows_in, recoded_in, recoded_held, put_under}
use Rattle.replica_store.specs.declared.inserted.Inserted.{Inserted}
use Rattle.replica_store.specs.declared.inserted.Inserted.TheVariants.{New, Already}
use Rattle.replica_store.proofs.Limits.{ok_unless, same_Ok}
use Rattle.replica_store.proofs.MergeAnswers.{made_of}
use Rattle.replica_store.proofs.Offers.{rows_in-unlisted}
use Rattle.replica_store.proofs.RowsIn.{entries-rows_in, get-rows_in, rows_in-empty, rows_in-insert, rows_in-union}
use Rattle.column_file.specs.Files.{AreCanonicalOf, canonical_read}
use Rattle.column_file.proofs.FileLaws.{rows_back}
use Rattle.store_view.specs.Asked.{condition_names}
use Rattle.cluster_history.specs.Cluster.{ClusterParts, new_cluster, new_replicas, place_of, numbered, with_store, placed, held_at, at_place, at_replica, done_reply, append_step, insert_step, delete_step, then_deleted, deleting, delete_where_step, recode_step, stored, merged_pair, merged_in, merge_reply, merge_places, merge_step, with_message, ask_of, ask_step, offer_message, serve_of, serve_step, taking, take_step, opening, open_step, export_reply, export_step, query_reply, query_step, step_of}
use Rattle.cluster_history.specs.Codings.{Become, AreJoined, IsSent, SegmentsAfter}
use Rattle.cluster_history.specs.Message.{Carried, Listing, Offering, offering_in}
use Rattle.cluster_history.specs.Rows.{batches_held, batches_carried, SegmentsHaveRows, NewHaveRows, StepsKeepRows, RunsKeepRows, RowLaws}
use Rattle.cluster_history.specs.Segments.{ClusterSegments, ClusterForm}
use Rattle.cluster_history.specs.declared.reply.Reply.{Reply}
use Rattle.cluster_history.specs.declared.reply.Reply.TheVariants.{Done, Named, Put, Deleted}
use Rattle.cluster_history.proofs.Codings.{union-self}
use Rattle.cluster_history.proofs.Histories.{room_made, asked_leaves, answered_ok}
use Rattle.cluster_history.proofs.Messages.{numbered-map}
use Rattle.cluster_history.proofs.Takes.{ok_parts, insert_again}
use Rattle.cluster_history.specs.declared.step.Step.{Step}
use Rattle.cluster_history.specs.declared.step.Step.TheVariants.{Append, Insert, Delete, DeleteWhere, Merge, Ask, Serve, Take, Recode, Open, Export, Query}

abbrev Batches : Type 0
Batches = finite.FinMap name_cmp Batch

-- what a step makes of the parts
abbrev Made : Type 0
Made = Result (Reply × ClusterParts) Refusal

-- ---- lists that are read alike

module _ {X Y Z : Type 0} (f : X → Z) (g : Y → Z) (xs : List X) (ys : List Y) (alike : map f xs ≡ map g ys) where
  as_long : length xs ≡ length ys
  as_long = sym (length-map xs f) ∙ ap length alike ∙ length-map ys g

  same_numbered : (number : ℕ) (x : X) (y : Y) → numbered xs number ≡ Some x → numbered ys number ≡ Some y → f x ≡ g y
  same_numbered number x y here there =
      let both : ◌≡◌ {A = Option Z} (Some (f x)) (Some (g y)) =
      sym (numbered-map f xs number ∙ ap (option_map f) here) ∙ ap (λ (zs : List Z). numbered zs number) alike ∙ numbered-map g ys number ∙ ap (option_map g) there in cc

-- a number finds what stands at its place
at_number : {X : Type 0} (xs : List X) (number at : ℕ) → place_of (length xs) number ≡ Some at → numbered xs number ≡ slice_get xs at
at_number xs number at place = ap (option_and_then (slice_get xs)) place

-- ---- what becomes of one store

-- a call of one replica that was answered: its place, what the replica was, what was answered and made of it, and the cluster after it
record IsCalled {X : Type 0} (reply : X → Reply) (old : ClusterParts) (replica : ℕ) (call : Replica → Result (X × Replica) Refusal) (answer : Reply) (new : ClusterParts) : Type 0 where
  pub at : ℕ
  pub was : Replica
  pub result : X
  pub made : Replica
  pub place : place_of (length old.stores) replica ≡ Some at
  pub found : slice_get old.stores at ≡ Some was
  pub called : call was ≡ Ok (result, made)
  pub replied : reply result ≡ answer
  pub after : with_store old at made ≡ new

is_called : {X : Type 0} (reply : X → Reply) (old new : ClusterParts) (replica : ℕ) (call : Replica → Result (X × Replica) Refusal) (answer : Reply) → at_replica reply old replica call ≡ Ok (answer, new) → IsCalled reply old replica call answer new
is_called {X = X} reply old new replica call answer e =
    let Goal : Type 0 = IsCalled reply old replica call answer new in
    elim (place_of (length old.stores) replica) as (λ o. place_of (length old.stores) replica ≡ o → at_place reply old call o ≡ Ok (answer, new) → Goal) [
      | None ↦ λ none f. let bad : ◌≡◌ {A = Made} (Err NoSuchReplica) (Ok (answer, new)) = f in cc
      | Some at ↦ λ place f.
          elim (slice_get old.stores at) as (λ o. slice_get old.stores at ≡ o → held_at reply old at call o ≡ Ok (answer, new) → Goal) [
            | None ↦ λ none g. let bad : ◌≡◌ {A = Made} (Err NoSuchReplica) (Ok (answer, new)) = g in cc
            | Some r ↦ λ found g.
                elim (call r) as (λ o. call r ≡ o → placed reply old at o ≡ Ok (answer, new) → Goal) [
                  | Err fault ↦ λ called h. let bad : ◌≡◌ {A = Made} (Err fault) (Ok (answer, new)) = h in cc
                  | Ok done ↦ λ called h.
                      let parts = ok_parts (reply done.0) answer (with_store old at done.1) new h in
                      record { at = at; was = r; result = done.0; made = done.1; place = place; found = found; called = called; replied = parts.0; after = parts.1 }
                ] refl g
          ] refl f
    ] refl e

-- what replicas hold and what messages bring, of parts and of segments
abbrev held_rows : ClusterSegments → List Batches
held_rows s = map rows_in s.stores

abbrev sent_rows : ClusterSegments → List Batches
sent_rows s = map rows_in s.messages

abbrev held_batches : ClusterParts → List Batches
held_batches c = map batches_held c.stores

abbrev sent_batches : ClusterParts → List Batches
sent_batches c = map batches_carried c.messages

-- a store that is set on both sides, with the same rows
set_alike : (old new : ClusterForm) (replica at : ℕ) (made : Segments) (next : Replica) → SegmentsHaveRows old → place_of (length old.parts.stores) replica ≡ Some at → with_store old.parts at next ≡ new.parts
    → Become old.segments replica made new.segments → rows_in made ≡ batches_held next → SegmentsHaveRows new
set_alike old new replica at made next before place after become same =
    let lengths : length old.segments.stores ≡ length old.parts.stores = as_long rows_in batches_held old.segments.stores old.parts.stores before.held in
    let both : ◌≡◌ {A = Option ℕ} (Some become.0) (Some at) = sym become.1 ∙ ap (λ n. place_of n replica) lengths ∙ place in
    let one : become.0 ≡ at = cc in
    record {
      held =
          ap held_rows become.2
          ∙ map-set rows_in old.segments.stores become.0 made
          ∙ (λ i. slice_set (before.held i) (one i) (same i))
          ∙ sym (map-set batches_held old.parts.stores at next)
          ∙ ap held_batches after;
      sent = ap sent_rows become.2 ∙ before.sent ∙ ap sent_batches after;
    }

-- a call of one replica that makes other segments of its own
call_sets : {X : Type 0} (reply : X → Reply) (old new : ClusterForm) (replica : ℕ) (call : Replica → Result (X × Replica) Refusal) (answer : Reply) (held made : Segments)
    → SegmentsHaveRows old → at_replica reply old.parts replica call ≡ Ok (answer, new.parts) → numbered old.segments.stores replica ≡ Some held → Become old.segments replica made new.segments
    → ((r next : Replica) (x : X) → rows_in held ≡ batches_held r → call r ≡ Ok (x, next) → reply x ≡ answer → rows_in made ≡ batches_held next)
    → SegmentsHaveRows new
call_sets reply old new replica call answer held made before e has become makes =
    let c = is_called reply old.parts new.parts replica call answer e in
    let there : numbered old.parts.stores replica ≡ Some c.was = at_number old.parts.stores replica c.at c.place ∙ c.found in
    let alike : rows_in held ≡ batches_held c.was = same_numbered rows_in batches_held old.segments.stores old.parts.stores before.held replica held c.was has there in
    set_alike old new replica c.at made c.made before c.place c.after become (makes c.was c.made c.result alike c.called c.replied)

-- a call of one replica that leaves its batches, where all segments stay
call_leaves : {X : Type 0} (reply : X → Reply) (old new : ClusterForm) (replica : ℕ) (call : Replica → Result (X × Replica) Refusal) (answer : Reply)
    → SegmentsHaveRows old → at_replica reply old.parts replica call ≡ Ok (answer, new.parts) → new.segments ≡ old.segments
    → ((r next : Replica) (x : X) → call r ≡ Ok (x, next) → reply x ≡ answer → batches_held next ≡ batches_held r)
    → SegmentsHaveRows new
call_leaves reply old new replica call answer before e stay leaves =
    let c = is_called reply old.parts new.parts replica call answer e in
    let same : batches_held c.made ≡ batches_held c.was = leaves c.was c.made c.result c.called c.replied in
    record {
      held =
          ap held_rows stay
          ∙ before.held
          ∙ sym (map-set_same batches_held old.parts.stores c.at c.made c.was (same ∙ ap batches_held (sym (get_or_from_slice_get old.parts.stores c.at c.was c.was c.found))))
          ∙ ap held_batches c.after;
      sent = ap sent_rows stay ∙ before.sent ∙ ap sent_batches c.after;
    }

-- where parts and segments stay
all_stay : (old new : ClusterForm) → SegmentsHaveRows old → new.parts ≡ old.parts → new.segments ≡ old.segments → SegmentsHaveRows new
all_stay old new before parts segments = record {
  held = ap held_rows segments ∙ before.held ∙ ap held_batches (sym parts);
  sent = ap sent_rows segments ∙ before.sent ∙ ap sent_batches (sym parts);
}

-- ---- batches that come

-- a batch that comes under a name as a segment of its rows
put_alike : (r : Replica) (held : Segments) (name : BatchName) (s : SegmentForm) → rows_in held ≡ batches_held r → rows_in (finite.insert held name s) ≡ finite.insert (batches_held r) name s.rows
put_alike r held name s before = rows_in-insert held name s ∙ ap (λ (m : Batches). finite.insert m name s.rows) before

added_batches : (r next : Replica) (rows : Batch) (name : BatchName) (decided : Result BatchName Refusal) → then_added r rows decided ≡ Ok (name, next) → finite.insert (batches_held r) name rows ≡ batches_held next
added_batches r next rows name (Ok n) e =
    let parts = ok_parts n name (with_batch r n rows) next e in
    ap (λ (m : BatchName). finite.insert (batches_held r) m rows) (sym parts.0) ∙ ap batches_held parts.1
added_batches r next rows name (Err fault) e = let bad : ◌≡◌ {A = Result (BatchName × Replica) Refusal} (Err fault) (Ok (name, next)) = e in cc

placed_batches : (r next : Replica) (name : BatchName) (rows : Batch) (decided : Result Inserted Refusal) → then_placed r name rows decided ≡ Ok (New, next) → finite.insert (batches_held r) name rows ≡ batches_held next
placed_batches r next name rows (Ok New) e = ap batches_held (made_of New New (with_batch r name rows) next e)
placed_batches r next name rows (Ok Already) e = let parts = ok_parts Already New r next e in let bad : Already ≡ New = parts.0 in cc
placed_batches r next name rows (Err fault) e = let bad : ◌≡◌ {A = Result (Inserted × Replica) Refusal} (Err fault) (Ok (New, next)) = e in cc

kept_batches : (r next : Replica) (name : BatchName) (rows : Batch) (decided : Result Inserted Refusal) → then_placed r name rows decided ≡ Ok (Already, next) → batches_held next ≡ batches_held r
kept_batches r next name rows (Ok New) e = let parts = ok_parts New Already (with_batch r name rows) next e in let bad : New ≡ Already = parts.0 in cc
kept_batches r next name rows (Ok Already) e = ap batches_held (sym (made_of Already Already r next e))
kept_batches r next name rows (Err fault) e = let bad : ◌≡◌ {A = Result (Inserted × Replica) Refusal} (Err fault) (Ok (Already, next)) = e in cc

named_is : (m n : BatchName) → Named m ≡ Named n → m ≡ n
named_is m n e = cc

put_is : (a b : Inserted) → Put a ≡ Put b → a ≡ b
put_is a b e = cc

-- an insert's answer in place of another
answer_as : (a b : Inserted) (r next : Replica) (name : BatchName) (rows : Batch) → inserted r name rows ≡ Ok (a, next) → a ≡ b → inserted r name rows ≡ Ok (b, next)
answer_as a b r next name rows e same = e ∙ ap (λ (x : Inserted). let made : Result (Inserted × Replica) Refusal = Ok (x, next) in made) same

-- ---- batches that are taken in

joined_batches : (r other next : Replica) (u : Unit {0}) → merged r other ≡ Ok (u, next) → union_of (batches_held r) (batches_held other) ≡ batches_held next
joined_batches r other next u e =
    let met = ok_unless (merge_fault r other) (Ok (tt, with_join r other)) (u, next) e in
    ap batches_held (made_of tt u (with_join r other) next met.1)

union_alike : (held came : Segments) (ours theirs : Batches) → rows_in held ≡ ours → rows_in came ≡ theirs → rows_in (union_of held came) ≡ union_of ours theirs
union_alike held came ours theirs here there = rows_in-union held came ∙ λ i. union_of (here i) (there i)

-- a take that is answered brought an offer, whose rows came
taken_alike : (sent : List Segments) (messages : List Carried) (message : ℕ) (held came : Segments) (r next : Replica) (u : Unit {0}) → map rows_in sent ≡ map batches_carried messages → numbered sent message ≡ Some came
    → rows_in held ≡ batches_held r → taking (offering_in (numbered messages message)) r ≡ Ok (u, next) → rows_in (union_of held came) ≡ batches_held next
taken_alike sent messages message held came r next u alike has before e =
    let Goal : Type 0 = rows_in (union_of held came) ≡ batches_held next in
    elim (numbered messages message) as (λ o. numbered messages message ≡ o → taking (offering_in o) r ≡ Ok (u, next) → Goal) [
      | None ↦ λ is f. let bad : ◌≡◌ {A = Result (Unit {0} × Replica) Refusal} (Err NoSuchMessage) (Ok (u, next)) = f in cc
      | Some (Listing summary) ↦ λ is f. let bad : ◌≡◌ {A = Result (Unit {0} × Replica) Refusal} (Err NoSuchMessage) (Ok (u, next)) = f in cc
      | Some (Offering table state) ↦ λ is f.
          let other : Replica = record { schema = table; own = r.own; state = state } in
          union_alike held came (batches_held r) state.batches before (same_numbered rows_in batches_carried sent messages alike message came (Offering table state) has is) ∙ joined_batches r other next u f
    ] refl e

-- canonical segments have the rows of the batches that they are of
canonical_rows : (table : Table) (batches : Batches) (came : Segments) → AreCanonicalOf table batches came → rows_in came ≡ batches
canonical_rows table batches came canonical = finite.same_entries_map _ _ (entries-rows_in came ∙ ap rows_entries canonical ∙ rows_back table (finite.entries batches))

opened_alike : (file : List ℕ) (brought : OfferForm) (held came : Segments) (r next : Replica) (u : Unit {0}) → canonical_read file ≡ Ok brought → AreCanonicalOf brought.schema brought.state.batches came
    → rows_in held ≡ batches_held r → opening (canonical_read file) r ≡ Ok (u, next) → rows_in (union_of held came) ≡ batches_held next
opened_alike file brought held came r next u read canonical before e =
    union_alike held came (batches_held r) brought.state.batches before (canonical_rows brought.schema brought.state.batches came canonical)
    ∙ joined_batches r (offering r.own brought) next u (ap (λ (x : Result OfferForm Refusal). opening x r) (sym read) ∙ e)

-- ---- batches that stay

deleted_leaves : (r next : Replica) (first : RowName) (last : ℕ) (u : Unit {0}) → deleted_rows r first last ≡ Ok (u, next) → batches_held next ≡ batches_held r
deleted_leaves r next first last u e =
    let made : Replica = with_deleted r (rows_between first last) in
    let met = ok_unless (delete_fault first last) (Ok (tt, made)) (u, next) e in
    ap batches_held (sym (made_of tt u made next met.1))

found_leaves : (r next : Replica) (found : Result (List RowName) Refusal) (count : ℕ) → then_deleted r found ≡ Ok (count, next) → batches_held next ≡ batches_held r
found_leaves r next (Ok names) count e = ap batches_held (sym (made_of (length names) count (with_deleted r names) next e))
found_leaves r next (Err fault) count e = let bad : ◌≡◌ {A = Result (ℕ × Replica) Refusal} (Err fault) (Ok (count, next)) = e in cc

recoded_leaves : (r next : Replica) (name : BatchName) (column vector : ℕ) (u : Unit {0}) → recoded_rows r name column vector ≡ Ok (u, next) → batches_held r ≡ batches_held next
recoded_leaves r next name column vector u e =
    let met = ok_unless (recode_fault r name column vector) (Ok (tt, r)) (u, next) e in
    ap batches_held (made_of tt u r next met.1)

module _ (held made : Segments) (name : BatchName) (column vector : ℕ) (coding : Coding) where
  -- the vector that was looked for is there, and its segment keeps its rows
  recoded_vector_rows : (s : SegmentForm) (o : Option VectorForm) → finite.get held name ≡ Some s → put_under held name (put_in s column vector (recoded_found coding o)) ≡ Ok (tt, made) → rows_in made ≡ rows_in held
  recoded_vector_rows s None has e = let bad : ◌≡◌ {A = Result (Unit {0} × Segments) Refusal} (Err NoSuchVector) (Ok (tt, made)) = e in cc
  recoded_vector_rows s (Some v) has e =
      let done = same_Ok (tt, finite.insert held name _) (tt, made) e in
      ap rows_in (sym (ap (λ (p : Unit {0} × Segments). p.1) done))
      ∙ rows_in-insert held name _
      ∙ insert_again (rows_in held) name s.rows (get-rows_in held name ∙ ap (option_map (λ (x : SegmentForm). x.rows)) has)

  recoded_held_rows : (o : Option SegmentForm) → finite.get held name ≡ o → put_under held name (recoded_held o column vector coding) ≡ Ok (tt, made) → rows_in made ≡ rows_in held
  unfolding recoded
  recoded_held_rows None has e = let bad : ◌≡◌ {A = Result (Unit {0} × Segments) Refusal} (Err NoSuchVector) (Ok (tt, made)) = e in cc
  recoded_held_rows (Some s) has e = recoded_vector_rows s (vector_at s.forms column vector) has e

  -- a recode leaves the rows
  recoded_alike : recoded_in held name column vector coding ≡ Ok (tt, made) → rows_in made ≡ rows_in held
  unfolding recoded_in
  recoded_alike e = recoded_held_rows (finite.get held name) refl e

-- ---- merges

-- a merge that was answered: of a replica with itself, which leaves all, or of two, which joins the other's state to the first's
abbrev IsMerged : ClusterParts → Option ℕ → Option ℕ → ClusterParts → Type 0
IsMerged old to from new =
    ((to ≡ from) × (new ≡ old)) ⊎
    ((at start : ℕ) × (r other next : Replica) × (to ≡ Some at) × (from ≡ Some start) × (slice_get old.stores at ≡ Some r) × (slice_get old.stores start ≡ Some other)
    × (union_of (batches_held r) (batches_held other) ≡ batches_held next) × (with_store old at next ≡ new))

pair_merged : (old new : ClusterParts) (at start : ℕ) (answer : Reply) → merge_reply old (merged_in old.stores at start) ≡ Ok (answer, new) → IsMerged old (Some at) (Some start) new
unfolding merged_in
pair_merged old new at start answer e =
    let Goal : Type 0 = IsMerged old (Some at) (Some start) new in
    elim (slice_get old.stores at) as (λ o. slice_get old.stores at ≡ o → merge_reply old (merged_pair old.stores at o (slice_get old.stores start)) ≡ Ok (answer, new) → Goal) [
      | None ↦ λ none f. let bad : ◌≡◌ {A = Made} (Err NoSuchReplica) (Ok (answer, new)) = f in cc
      | Some r ↦ λ has f. elim (slice_get old.stores start) as (λ o. slice_get old.stores start ≡ o → merge_reply old (merged_pair old.stores at (Some r) o) ≡ Ok (answer, new) → Goal) [
        | None ↦ λ none g. let bad : ◌≡◌ {A = Made} (Err NoSuchReplica) (Ok (answer, new)) = g in cc
        | Some other ↦ λ theirs g. elim (merged r other) as (λ o. merged r other ≡ o → merge_reply old (stored old.stores at o) ≡ Ok (answer, new) → Goal) [
          | Err fault ↦ λ called h. let bad : ◌≡◌ {A = Made} (Err fault) (Ok (answer, new)) = h in cc
          | Ok done ↦ λ called h.
              let parts = ok_parts Done answer (with_store old at done.1) new h in
              inr (at, start, r, other, done.1, refl, refl, has, theirs, joined_batches r other done.1 done.0 called, parts.1)
        ] refl g
      ] refl f
    ] refl e

places_merged : (old new : ClusterParts) (to from : Option ℕ) (answer : Reply) → merge_places old to from ≡ Ok (answer, new) → IsMerged old to from new
places_merged old new None from answer e = let bad : ◌≡◌ {A = Made} (Err NoSuchReplica) (Ok (answer, new)) = e in cc
places_merged old new (Some at) None answer e = let bad : ◌≡◌ {A = Made} (Err NoSuchReplica) (Ok (answer, new)) = e in cc
places_merged old new (Some at) (Some start) answer e =
    elim (at == start) as (λ b. (at == start) ≡ b → cond b (Ok (Done, old)) (merge_reply old (merged_in old.stores at start)) ≡ Ok (answer, new) → IsMerged old (Some at) (Some start) new) [
      | true ↦ λ t f.
          let one : at ≡ start = grind (arith, nat_tests) in
          let parts = ok_parts Done answer old new f in
          inl (ap Some one, sym parts.1)
      | false ↦ λ t f. pair_merged old new at start answer f
    ] refl e

merged_alike : (old new : ClusterForm) (replica other : ℕ) (came : Segments) → SegmentsHaveRows old → numbered old.segments.stores other ≡ Some came → AreJoined old replica came new.segments
    → IsMerged old.parts (place_of (length old.parts.stores) replica) (place_of (length old.parts.stores) other) new.parts → SegmentsHaveRows new
merged_alike old new replica other came before brings joined (inl itself) =
    let lengths : length old.segments.stores ≡ length old.parts.stores = as_long rows_in batches_held old.segments.stores old.parts.stores before.held in
    let held : Segments = joined.0 in
    let become = joined.2 in
    let places : place_of (length old.segments.stores) replica ≡ place_of (length old.segments.stores) other = ap (λ n. place_of n replica) lengths ∙ itself.0 ∙ ap (λ n. place_of n other) (sym lengths) in
    let both : ◌≡◌ {A = Option Segments} (Some came) (Some held) = sym brings ∙ ap (option_and_then (slice_get old.segments.stores)) (sym places) ∙ joined.1 in
    let one : came ≡ held = cc in
    let again : union_of held came ≡ held = ap (union_of held) one ∙ union-self held in
    let here : slice_get old.segments.stores become.0 ≡ Some held = sym (at_number old.segments.stores replica become.0 become.1) ∙ joined.1 in
    record {
      held =
          ap held_rows become.2
          ∙ map-set_same rows_in old.segments.stores become.0 (union_of held came) held (ap rows_in (again ∙ sym (get_or_from_slice_get old.segments.stores become.0 held held here)))
          ∙ before.held
          ∙ ap held_batches (sym itself.1);
      sent = ap sent_rows become.2 ∙ before.sent ∙ ap sent_batches (sym itself.1);
    }
merged_alike old new replica other came before brings joined (inr pair) =
    let at : ℕ = pair.0 in
    let start : ℕ = pair.1 in
    let r : Replica = pair.2 in
    let theirs : Replica = pair.3 in
    let ours : rows_in joined.0 ≡ batches_held r =
    same_numbered rows_in batches_held old.segments.stores old.parts.stores before.held replica joined.0 r joined.1 (at_number old.parts.stores replica at pair.5 ∙ pair.7) in
    let others : rows_in came ≡ batches_held theirs =
    same_numbered rows_in batches_held old.segments.stores old.parts.stores before.held other came theirs brings (at_number old.parts.stores other start pair.6 ∙ pair.8) in
    set_alike old new replica at (union_of joined.0 came) pair.4 before pair.5 pair.10 joined.2 (union_alike joined.0 came (batches_held r) (batches_held theirs) ours others ∙ pair.9)

-- ---- messages

-- one more message, whose segments have its rows
message_alike : (old new : ClusterForm) (answer : Reply) (message : Carried) (brought : Segments) → SegmentsHaveRows old → ◌≡◌ {A = Made} (Ok (with_message old.parts message)) (Ok (answer, new.parts))
    → IsSent old.segments brought new.segments → rows_in brought ≡ batches_carried message → SegmentsHaveRows new
message_alike old new answer message brought before made is same =
    let after : (with_message old.parts message).1 ≡ new.parts = ap (λ (p : Reply × ClusterParts). p.1) (same_Ok (with_message old.parts message) (answer, new.parts) made) in
    record {
      held = ap held_rows is ∙ before.held ∙ ap held_batches after;
      sent =
          ap sent_rows is
          ∙ map-append rows_in old.segments.messages (brought ∷ [])
          ∙ (λ i. before.sent i ++ (same i ∷ []))
          ∙ sym (map-append batches_carried old.parts.messages (message ∷ []))
          ∙ ap sent_batches after;
    }

ask_alike : (old new : ClusterForm) (replica : ℕ) (answer : Reply) → SegmentsHaveRows old → ask_step old.parts replica ≡ Ok (answer, new.parts) → IsSent old.segments finite.empty new.segments → SegmentsHaveRows new
unfolding ask_step
ask_alike old new replica answer before e is =
    elim (numbered old.parts.stores replica) as (λ o. ask_of old.parts o ≡ Ok (answer, new.parts) → SegmentsHaveRows new) [
      | None ↦ λ f. let bad : ◌≡◌ {A = Made} (Err NoSuchReplica) (Ok (answer, new.parts)) = f in cc
      | Some r ↦ λ f.
          message_alike old new answer (Listing (summary_of r)) finite.empty before (room_made old.parts (Ok (with_message old.parts (Listing (summary_of r)))) (answer, new.parts) f) is rows_in-empty
    ] e

serve_alike : (old new : ClusterForm) (replica message : ℕ) (answer : Reply) → SegmentsHaveRows old → serve_step old.parts replica message ≡ Ok (answer, new.parts) → SegmentsAfter old (Serve replica message) answer new.segments
    → SegmentsHaveRows new
unfolding serve_step
serve_alike old new replica message answer before e after =
    let held : Segments = after.0 in
    let summary = after.1 in
    elim (numbered old.parts.stores replica) as (λ o. numbered old.parts.stores replica ≡ o → serve_of old.parts o (Some summary) ≡ Ok (answer, new.parts) → SegmentsHaveRows new) [
      | None ↦ λ none f. let bad : ◌≡◌ {A = Made} (Err NoSuchReplica) (Ok (answer, new.parts)) = f in cc
      | Some r ↦ λ there f.
          let state : State = unlisted_state summary.names r.state in
          elim (same_table r.schema summary.schema) as (λ b. offer_message old.parts r.schema (cond b (Ok state) (Err SchemaDiffers)) ≡ Ok (answer, new.parts) → SegmentsHaveRows new) [
            | false ↦ λ g. let bad : ◌≡◌ {A = Made} (Err SchemaDiffers) (Ok (answer, new.parts)) = g in cc
            | true ↦ λ g.
                message_alike old new answer (Offering r.schema state) (unlisted summary.names held) before g after.4
                (rows_in-unlisted summary.names held ∙ ap (unlisted summary.names) (same_numbered rows_in batches_held old.segments.stores old.parts.stores before.held replica held r after.2 there))
          ] (room_made old.parts (offer_message old.parts r.schema (offered r summary)) (answer, new.parts) f)
    ] refl (ap (serve_of old.parts (numbered old.parts.stores replica)) (sym after.3) ∙ e)

-- ---- the laws

-- a step that is answered
done_keeps : (old new : ClusterForm) (step : Step) (answer : Reply) → SegmentsHaveRows old → step_of old.parts step ≡ Ok (answer, new.parts) → SegmentsAfter old step answer new.segments → SegmentsHaveRows new
unfolding append_step insert_step delete_step delete_where_step merge_step take_step recode_step open_step export_step query_step
done_keeps old new (Append replica rows) answer before e after =
    let put = after.2 in
    call_sets Named old new replica (λ r. appended r rows) answer put.1 (finite.insert put.1 after.0 (canonical_segment put.0.schema rows)) before e put.3 put.5
    (λ r next name alike called replied.
    let same : name ≡ after.0 = named_is name after.0 (replied ∙ after.1) in
    put_alike r put.1 after.0 (canonical_segment put.0.schema rows) alike
    ∙ ap (λ (m : BatchName). finite.insert (batches_held r) m rows) (sym same)
    ∙ added_batches r next rows name (next_name r rows) called)
done_keeps old new (Insert replica name rows) answer before e (inl new_one) =
    let put = new_one.1 in
    call_sets Put old new replica (λ r. inserted r name rows) answer put.1 (finite.insert put.1 name (canonical_segment put.0.schema rows)) before e put.3 put.5
    (λ r next a alike called replied.
    put_alike r put.1 name (canonical_segment put.0.schema rows) alike
    ∙ placed_batches r next name rows (place_for r name rows) (answer_as a New r next name rows called (put_is a New (replied ∙ new_one.0))))
done_keeps old new (Insert replica name rows) answer before e (inr held) =
    call_leaves Put old new replica (λ r. inserted r name rows) answer before e held.1
    (λ r next a called replied. kept_batches r next name rows (place_for r name rows) (answer_as a Already r next name rows called (put_is a Already (replied ∙ held.0))))
done_keeps old new (Delete replica first last) answer before e after =
    call_leaves done_reply old new replica (λ r. deleted_rows r first last) answer before e after (λ r next u called replied. deleted_leaves r next first last u called)
done_keeps old new (DeleteWhere replica text) answer before e after =
    call_leaves Deleted old new replica (deleting text) answer before e after (λ r next count called replied. found_leaves r next (condition_names text r.schema r.state) count called)
done_keeps old new (Merge replica other) answer before e after =
    merged_alike old new replica other after.0 before after.1 after.2 (places_merged old.parts new.parts (place_of (length old.parts.stores) replica) (place_of (length old.parts.stores) other) answer e)
done_keeps old new (Ask replica) answer before e after = ask_alike old new replica answer before e after
done_keeps old new (Serve replica message) answer before e after = serve_alike old new replica message answer before e after
done_keeps old new (Take replica message) answer before e after =
    let joined = after.2 in
    call_sets done_reply old new replica (taking (offering_in (numbered old.parts.messages message))) answer joined.0 (union_of joined.0 after.0) before e joined.1 joined.2
    (λ r next u alike called replied. taken_alike old.segments.messages old.parts.messages message joined.0 after.0 r next u before.sent after.1 alike called)
done_keeps old new (Recode replica name column vector coding) answer before e after =
    call_sets done_reply old new replica (λ r. recoded_rows r name column vector) answer after.0 after.1 before e after.2 after.4
    (λ r next u alike called replied. recoded_alike after.0 after.1 name column vector coding after.3 ∙ alike ∙ recoded_leaves r next name column vector u called)
done_keeps old new (Open replica file) answer before e after =
    let joined = after.4 in
    call_sets done_reply old new replica (opening (canonical_read file)) answer joined.0 (union_of joined.0 after.1) before e joined.1 joined.2
    (λ r next u alike called replied. opened_alike file after.0 joined.0 after.1 r next u after.2 after.3 alike called)
done_keeps old new (Export replica) answer before e after =
    all_stay old new before (answered_ok old.parts (export_step old.parts replica) (answer, new.parts) e (asked_leaves old.parts export_reply (place_of (length old.parts.stores) replica))) after
done_keeps old new (Query replica sql) answer before e after =
    all_stay old new before (answered_ok old.parts (query_step old.parts replica sql) (answer, new.parts) e (asked_leaves old.parts (query_reply sql) (place_of (length old.parts.stores) replica))) after

steps_keep : StepsKeepRows
steps_keep old new step reply before (inl made) = done_keeps old new step reply before made.0 made.1
steps_keep old new step reply before (inr refused) = subst SegmentsHaveRows (sym refused.2.0) before

runs_keep : RunsKeepRows
runs_keep old new [] [] before run = subst SegmentsHaveRows (sym run) before
runs_keep old new [] (reply ∷ replies) before run = absurd run
runs_keep old new (step ∷ steps) [] before run = absurd run
runs_keep old new (step ∷ steps) (reply ∷ replies) before run = runs_keep run.0 new steps replies (steps_keep old run.0 step reply before run.1) run.2

new_have : NewHaveRows
unfolding new_cluster
new_have table count = record { held = none_held 1 count; sent = refl }
  where
    none_held : (first count : ℕ) → map rows_in (replicate count finite.empty) ≡ map batches_held (new_replicas table first count)
    none_held first zero = refl
    none_held first (suc count) = let rest = none_held (first + 1) count in λ i. rows_in-empty i ∷ rest i

pub rows_kept : RowLaws
rows_kept = record { start = new_have; steps = steps_keep; runs = runs_keep }
