-- What a call of one store makes of its segments, a step makes of the cluster's.
use Rattle.std.specs.Prelude.{◌≡◌, ◌<◌, ◌≤◌, ℕ, ◌+◌, ◌-◌, Bool, List, [], ◌∷◌, ◌++◌, length, map, take, drop, slice_get, slice_set, Option, Some, None, option_map, option_and_then, Result, Ok, Err, OnOk}
use Rattle.std.specs.FinMap as finite
use Rattle.std.proofs.Common.{refl, sym, ap, subst, ◌∙◌, arith, inl, inr, get_or}
use Rattle.std.proofs.lemmas.List.{length-map, length-append, map-append, map-set, set-append_left, set-append_right}
use Rattle.table_model.specs.State.{Batch, union_of}
use Rattle.table_model.specs.Table.{Table}
use Rattle.table_model.specs.declared.names.BatchName.{BatchName}
use Rattle.table_model.specs.declared.names.Origin.{Origin}
use Rattle.table_model.specs.declared.refusal.Refusal.{Refusal}
use Rattle.segment_core.specs.Segment.{SegmentForm, canonical_segment}
use Rattle.segment_core.specs.declared.coding.Coding.{Coding}
use Rattle.table_model.specs.Name.{name_cmp}
use Rattle.replica_store.specs.Replica.{Replica, next_name, then_added, with_batch, appended, place_for, then_placed, inserted}
use Rattle.replica_store.specs.Segments.{Segments, StoreForm, rows_in}
use Rattle.replica_store.specs.Exchange.{SummaryForm, unlisted}
use Rattle.replica_store.specs.declared.inserted.Inserted.{Inserted}
use Rattle.replica_store.specs.declared.inserted.Inserted.TheVariants.{New, Already}
use Rattle.table_model.proofs.Joins.{or_else-idempotent, get-union, same_maps}
use Rattle.replica_store.proofs.Limits.{IsFree-next_name, IsFree-place_for}
use Rattle.replica_store.proofs.RowsIn.{get-rows_in}
use Rattle.column_file.specs.Files.{AreCanonicalOf, opened_from}
use Rattle.cluster_history.specs.Cluster.{place_of, numbered}
use Rattle.cluster_history.specs.Codings.{Become, IsPut, AreJoined, IsSent, SegmentsAfter}
use Rattle.cluster_history.specs.Message.{listing_in}
use Rattle.cluster_history.specs.Segments.{ClusterSegments, ClusterForm, cluster_form, segments_in, brought_by, segments_brought}
use Rattle.cluster_history.specs.declared.message.Message.{Message}
use Rattle.cluster_history.specs.declared.reply.Reply.{Reply}
use Rattle.cluster_history.specs.declared.reply.Reply.TheVariants.{Put}
use Rattle.cluster_history.specs.ChangedStores.{MergesAt, RecodesAt}
use Rattle.cluster_history.proofs.Apart.{at_left, at_seam}
use Rattle.cluster_history.proofs.Opened.{opened_held}
use Rattle.cluster_history.proofs.Recodes.{refilled, there_is}
use Rattle.cluster_history.proofs.Takes.{ok_parts}
use Rattle.cluster_history.proofs.Placed.{length-replicas_in, same_store, store_there, found_in}
use Rattle.cluster_history.specs.declared.step.Step.TheVariants.{Insert, Merge, Recode, Open}

-- a replica's number finds what is seen of its store
numbered_in : {X : Type 0} (seen : StoreForm → X) (stores : List StoreForm) (replica at : ℕ) (s : StoreForm) → Some at ≡ place_of (length stores) replica → at < length stores → s ≡ get_or stores at s → numbered (map seen stores) replica ≡ Some (seen s)
numbered_in seen stores replica at s is below held =
    ap (λ n. option_and_then (slice_get (map seen stores)) (place_of n replica)) (length-map stores seen)
    ∙ ap (option_and_then (slice_get (map seen stores))) (sym is)
    ∙ found_in seen stores at s below held

-- the segments of the store that was set at a replica's place
becomes : (schema : Table) (stores : List StoreForm) (sent : List Message) (replica at : ℕ) (new : StoreForm) (made : Segments) → Some at ≡ place_of (length stores) replica → new.segments ≡ made
    → Become (cluster_form schema stores sent).segments replica made (cluster_form schema (slice_set stores at new) sent).segments
becomes schema stores sent replica at new made is same = (
  at,
  ap (λ n. place_of n replica) (length-map stores (λ (s : StoreForm). s.segments)) ∙ sym is,
  ap (λ (ss : List Segments). let all : ClusterSegments = record { stores = ss; messages = segments_brought sent } in all)
      (map-set (λ (s : StoreForm). s.segments) stores at new ∙ ap (slice_set (segments_in stores) at) same),
)

-- a fact on a cluster of known stores, whose replica with a number stands at a place, said of the cluster that they are
abbrev At : (ClusterForm → Type 0) → Table → List StoreForm → List Message → ℕ → ℕ → ClusterForm → Type 0
At P schema stores sent replica at c = cluster_form schema stores sent ≡ c → Some at ≡ place_of (length c.parts.stores) replica → at < length c.parts.stores → P c

said_at : (P : ClusterForm → Type 0) (schema : Table) (stores : List StoreForm) (sent : List Message) (replica at : ℕ) (c : ClusterForm)
    → (Some at ≡ place_of (length stores) replica → at < length stores → P (cluster_form schema stores sent)) → At P schema stores sent replica at c
said_at P schema stores sent replica at c holds view =
    let Q : ClusterForm → Type 0 = λ d. Some at ≡ place_of (length d.parts.stores) replica → at < length d.parts.stores → P d in
    subst Q view (λ is below. holds (is ∙ ap (λ n. place_of n replica) (length-replicas_in stores)) (omega (arith, below, length-replicas_in stores)))

-- a batch was put into the store at a replica's place
pub put_at : (schema : Table) (stores : List StoreForm) (sent : List Message) (replica at : ℕ) (s new : StoreForm) (name : BatchName) (rows : Batch) (c : ClusterForm)
    → s ≡ get_or stores at s → finite.get s.segments name ≡ None → new.segments ≡ finite.insert s.segments name (canonical_segment s.replica.schema rows)
    → At (λ d. IsPut d replica name rows (cluster_form schema (slice_set stores at new) sent).segments) schema stores sent replica at c
put_at schema stores sent replica at s new name rows c held free made =
    said_at (λ d. IsPut d replica name rows (cluster_form schema (slice_set stores at new) sent).segments) schema stores sent replica at c (λ is below. (
      s.replica,
      s.segments,
      numbered_in (λ x. x.replica) stores replica at s is below held,
      numbered_in (λ x. x.segments) stores replica at s is below held,
      free,
      becomes schema stores sent replica at new (finite.insert s.segments name (canonical_segment s.replica.schema rows)) is made,
    ))

-- a name that is new to a store's batches is new to its segments, whose rows these are
free_in : (s : StoreForm) (name : BatchName) → s.replica.state.batches ≡ rows_in s.segments → finite.get s.replica.state.batches name ≡ None → finite.get s.segments name ≡ None
free_in s name rows none = none_of (finite.get s.segments name) (sym (get-rows_in s.segments name) ∙ ap (λ (m : finite.FinMap name_cmp Batch). finite.get m name) (sym rows) ∙ none)
  where
    none_of : (o : Option SegmentForm) → option_map (λ (x : SegmentForm). x.rows) o ≡ None → o ≡ None
    none_of None e = refl
    none_of (Some x) e = cc

not_held : Already ≡ New → ⊥
not_held e = cc

appended_free : (r new : Replica) (rows : Batch) (name : BatchName) (decided : Result BatchName Refusal) → next_name r rows ≡ decided → then_added r rows decided ≡ Ok (name, new) → finite.get r.state.batches name ≡ None
appended_free r new rows name (Ok n) was is = let free = IsFree-next_name r rows n was in let parts = ok_parts n name (with_batch r n rows) new is in ap (finite.get r.state.batches) (sym parts.0) ∙ free.new
appended_free r new rows name (Err fault) was is = let bad : ◌≡◌ {A = Result (BatchName × Replica) Refusal} (Err fault) (Ok (name, new)) = is in cc

inserted_free : (r new : Replica) (rows : Batch) (name : BatchName) (decided : Result Inserted Refusal) → place_for r name rows ≡ decided → then_placed r name rows decided ≡ Ok (New, new) → finite.get r.state.batches name ≡ None
inserted_free r new rows name (Ok New) was is = let free = IsFree-place_for r name rows was in free.new
inserted_free r new rows name (Ok Already) was is = let parts = ok_parts Already New r new is in absurd (not_held parts.0)
inserted_free r new rows name (Err fault) was is = let bad : ◌≡◌ {A = Result (Inserted × Replica) Refusal} (Err fault) (Ok (New, new)) = is in cc

-- an append puts the batch in under a new name
pub append_at : (schema : Table) (stores : List StoreForm) (sent : List Message) (replica at : ℕ) (s new : StoreForm) (name : BatchName) (rows : Batch) (c : ClusterForm)
    → s ≡ get_or stores at s → s.replica.state.batches ≡ rows_in s.segments → appended s.replica rows ≡ Ok (name, new.replica)
    → new.segments ≡ finite.insert s.segments name (canonical_segment s.replica.schema rows)
    → At (λ d. IsPut d replica name rows (cluster_form schema (slice_set stores at new) sent).segments) schema stores sent replica at c
append_at schema stores sent replica at s new name rows c held own made segments =
    put_at schema stores sent replica at s new name rows c held (free_in s name own (appended_free s.replica new.replica rows name (next_name s.replica rows) refl made)) segments

-- a call that left the segments of its store left those of the cluster
pub kept_at : (schema : Table) (stores : List StoreForm) (sent : List Message) (at : ℕ) (s new : StoreForm) (c : ClusterForm)
    → s ≡ get_or stores at s → new.segments ≡ s.segments → cluster_form schema stores sent ≡ c → (cluster_form schema (slice_set stores at new) sent).segments ≡ c.segments
kept_at schema stores sent at s new c held same view =
    let left : segments_in (slice_set stores at new) ≡ segments_in stores =
    map-set (λ (x : StoreForm). x.segments) stores at new ∙ ap (slice_set (segments_in stores) at) same ∙ sym (map-set (λ (x : StoreForm). x.segments) stores at s) ∙ ap segments_in (same_store stores at s s held refl) in
    ap (λ (ss : List Segments). let all : ClusterSegments = record { stores = ss; messages = segments_brought sent } in all) left ∙ ap (λ (d : ClusterForm). d.segments) view

-- an insert puts the batch in, or leaves all where it is held
pub insert_at : (schema : Table) (stores : List StoreForm) (sent : List Message) (replica at : ℕ) (s new : StoreForm) (name : BatchName) (rows : Batch) (answer : Inserted) (c : ClusterForm)
    → s ≡ get_or stores at s → s.replica.state.batches ≡ rows_in s.segments → inserted s.replica name rows ≡ Ok (answer, new.replica)
    → (◌≡◌ {A = Result Inserted Refusal} (Ok answer) (Ok New) → new.segments ≡ finite.insert s.segments name (canonical_segment s.replica.schema rows))
    → (◌≡◌ {A = Result Inserted Refusal} (Ok answer) (Ok Already) → new ≡ s)
    → At (λ d. SegmentsAfter d (Insert replica name rows) (Put answer) (cluster_form schema (slice_set stores at new) sent).segments) schema stores sent replica at c
insert_at schema stores sent replica at s new name rows New c held own made put same view is below =
    inl (refl, put_at schema stores sent replica at s new name rows c held (free_in s name own (inserted_free s.replica new.replica rows name (place_for s.replica name rows) refl made)) (put refl) view is below)
insert_at schema stores sent replica at s new name rows Already c held own made put same view is below = inr (refl, kept_at schema stores sent at s new c held (ap (λ (x : StoreForm). x.segments) (same refl)) view)

-- batches were taken into the store at a replica's place
pub joined_at : (schema : Table) (stores : List StoreForm) (sent : List Message) (replica at : ℕ) (s new : StoreForm) (came : Segments) (c : ClusterForm)
    → s ≡ get_or stores at s → new.segments ≡ union_of s.segments came
    → At (λ d. AreJoined d replica came (cluster_form schema (slice_set stores at new) sent).segments) schema stores sent replica at c
joined_at schema stores sent replica at s new came c held made =
    said_at (λ d. AreJoined d replica came (cluster_form schema (slice_set stores at new) sent).segments) schema stores sent replica at c (λ is below. (
      s.segments,
      numbered_in (λ x. x.segments) stores replica at s is below held,
      becomes schema stores sent replica at new (union_of s.segments came) is made,
    ))

-- a union with itself is itself
pub union-self : (m : Segments) → union_of m m ≡ m
union-self m = same_maps (union_of m m) m (λ q. get-union m m q ∙ or_else-idempotent (finite.get m q))

-- a merge with itself leaves all
pub itself_at : (schema : Table) (stores : List StoreForm) (sent : List Message) (replica other at from : ℕ) (reply : Reply) (c : ClusterForm)
    → Some from ≡ place_of (length c.parts.stores) other → at ≡ from
    → At (λ d. SegmentsAfter d (Merge replica other) reply c.segments) schema stores sent replica at c
itself_at schema stores sent replica other at from reply c is_other one view is below =
    let lengths : length c.parts.stores ≡ length stores = ap (λ (d : ClusterForm). length d.parts.stores) (sym view) ∙ length-replicas_in stores in
    let here : Some at ≡ place_of (length stores) replica = is ∙ ap (λ n. place_of n replica) lengths in
    let there : Some at ≡ place_of (length stores) other = ap Some one ∙ is_other ∙ ap (λ n. place_of n other) lengths in
    let within : at < length stores = omega (arith, below) in
    let found = store_there stores at within in
    let s : StoreForm = found.0 in
    let held : s ≡ get_or stores at s = found.1 in
    let Q : ClusterForm → Type 0 = λ d. SegmentsAfter d (Merge replica other) reply (cluster_form schema (slice_set stores at s) sent).segments in
    subst (λ (new : ClusterSegments). SegmentsAfter c (Merge replica other) reply new) (kept_at schema stores sent at s s c held refl view)
    (subst Q view (
      s.segments,
      numbered_in (λ x. x.segments) stores other at s there within held,
      (s.segments, numbered_in (λ x. x.segments) stores replica at s here within held, becomes schema stores sent replica at s (union_of s.segments s.segments) here (sym (union-self s.segments))),
    ))

-- a merge of two replicas takes in the segments of the other
pub merged_at : (schema : Table) (stores lent new : List StoreForm) (sent : List Message) (n replica other at from : ℕ) (reply : Reply) (c : ClusterForm)
    → lent ≡ stores → n ≡ length stores → MergesAt lent at from new → Some from ≡ place_of (length c.parts.stores) other → from < length c.parts.stores
    → At (λ d. SegmentsAfter d (Merge replica other) reply (cluster_form schema (take n (new ++ drop (length new) stores)) sent).segments) schema stores sent replica at c
merged_at schema stores lent new sent n replica other at from reply c is_lent is_len merges is_from below_from view is below =
    let s : StoreForm = merges.0 in
    let t : StoreForm = merges.1 in
    let made : StoreForm = merges.2 in
    let lengths : length c.parts.stores ≡ length stores = ap (λ (d : ClusterForm). length d.parts.stores) (sym view) ∙ length-replicas_in stores in
    let there : Some from ≡ place_of (length stores) other = is_from ∙ ap (λ n. place_of n other) lengths in
    let came : numbered (segments_in stores) other ≡ Some t.segments = numbered_in (λ x. x.segments) stores other from t there (omega (arith, below_from)) (there_is stores lent from t is_lent merges.4) in
    let joined = joined_at schema stores sent replica at s made t.segments c (there_is stores lent at s is_lent merges.3) merges.6 view is below in
    let Q : ClusterForm → Type 0 = λ d. numbered d.segments.stores other ≡ Some t.segments in
    subst (λ (ss : List StoreForm). SegmentsAfter c (Merge replica other) reply (cluster_form schema ss sent).segments) (sym (refilled stores lent new n at made is_lent is_len merges.5))
    (t.segments, subst Q view came, joined)

-- a vector was put into another coding
pub recoded_at : (schema : Table) (stores lent new : List StoreForm) (sent : List Message) (n replica at : ℕ) (name : BatchName) (column vector : ℕ) (coding : Coding) (u : Unit {0}) (reply : Reply) (c : ClusterForm)
    → lent ≡ stores → n ≡ length stores → RecodesAt lent (Ok u) new at name column vector coding
    → At (λ d. SegmentsAfter d (Recode replica name column vector coding) reply (cluster_form schema (take n (new ++ drop (length new) stores)) sent).segments) schema stores sent replica at c
recoded_at schema stores lent new sent n replica at name column vector coding u reply c is_lent is_len recodes view is below =
    let s : StoreForm = recodes.0 in
    let made : StoreForm = recodes.1 in
    let held : s ≡ get_or stores at s = there_is stores lent at s is_lent recodes.2 in
    subst (λ (ss : List StoreForm). SegmentsAfter c (Recode replica name column vector coding) reply (cluster_form schema ss sent).segments) (sym (refilled stores lent new n at made is_lent is_len recodes.3))
    (said_at (λ d. SegmentsAfter d (Recode replica name column vector coding) reply (cluster_form schema (slice_set stores at made) sent).segments) schema stores sent replica at c (λ is below. (
      s.segments,
      made.segments,
      numbered_in (λ x. x.segments) stores replica at s is below held,
      recodes.5,
      becomes schema stores sent replica at made made.segments is refl,
    )) view is below)

-- one more message was sent
pub sent_one : (schema : Table) (stores : List StoreForm) (sent : List Message) (message : Message) (c : ClusterForm) → cluster_form schema stores sent ≡ c
    → IsSent c.segments (brought_by message) (cluster_form schema stores (sent ++ (message ∷ []))).segments
sent_one schema stores sent message c view =
    let Q : ClusterForm → Type 0 = λ d. IsSent d.segments (brought_by message) (cluster_form schema stores (sent ++ (message ∷ []))).segments in
    subst Q view (ap (λ (ms : List Segments). let all : ClusterSegments = record { stores = segments_in stores; messages = ms } in all) (map-append brought_by sent (message ∷ [])))

-- what was sent of a replica's segments to a summary
pub served_at : (schema : Table) (stores : List StoreForm) (sent : List Message) (replica message at : ℕ) (s : StoreForm) (summary : SummaryForm) (came : Segments) (new : ClusterSegments) (c : ClusterForm)
    → s ≡ get_or stores at s → came ≡ unlisted summary.names s.segments → Some summary ≡ listing_in (numbered c.parts.messages message) → IsSent c.segments came new
    → At (λ d. (held : Segments) × (asked : SummaryForm) × (numbered d.segments.stores replica ≡ Some held) × (listing_in (numbered c.parts.messages message) ≡ Some asked) × IsSent c.segments (unlisted asked.names held) new) schema stores sent replica at c
served_at schema stores sent replica message at s summary came new c held made asked is_sent =
    said_at (λ d. (held : Segments) × (asked : SummaryForm) × (numbered d.segments.stores replica ≡ Some held) × (listing_in (numbered c.parts.messages message) ≡ Some asked) × IsSent c.segments (unlisted asked.names held) new) schema stores sent replica at c
    (λ is below. (
      s.segments,
      summary,
      numbered_in (λ x. x.segments) stores replica at s is below held,
      sym asked,
      subst (λ (brought : Segments). IsSent c.segments brought new) made is_sent,
    ))

-- what the messages bring is what those of the cluster's view bring
pub brought_in : (c : ClusterForm) (schema : Table) (stores : List StoreForm) (sent slice : List Message) (message : ℕ) (came : Segments)
    → cluster_form schema stores sent ≡ c → slice ≡ sent → numbered (segments_brought slice) message ≡ Some came → numbered c.segments.messages message ≡ Some came
brought_in c schema stores sent slice message came view same brings =
    ap (λ (ms : List Segments). numbered ms message) (sym (ap (λ (ms : List Message). segments_brought ms) same ∙ ap (λ (d : ClusterForm). d.segments.messages) view)) ∙ brings

-- what a file holds was taken in, in canonical segments
pub opened_at : (schema : Table) (stores : List StoreForm) (sent : List Message) (replica at : ℕ) (s new : StoreForm) (own : Origin) (file : List ℕ) (other : StoreForm) (reply : Reply) (c : ClusterForm)
    → s ≡ get_or stores at s → 1 ≤ own.0 → opened_from own file ≡ Ok other.replica → AreCanonicalOf other.replica.schema other.replica.state.batches other.segments → new.segments ≡ union_of s.segments other.segments
    → At (λ d. SegmentsAfter d (Open replica file) reply (cluster_form schema (slice_set stores at new) sent).segments) schema stores sent replica at c
opened_at schema stores sent replica at s new own file other reply c held some opened canonical made view is below =
    let h = opened_held own file other.replica some opened in (
      h.0,
      other.segments,
      h.1,
      subst (λ (r : Replica). AreCanonicalOf r.schema r.state.batches other.segments) (sym h.2) canonical,
      joined_at schema stores sent replica at s new other.segments c held made view is below,
    )

-- a merge into the front of stores that were parted
pub front_merges : (stores front back : List StoreForm) (place from : ℕ) (s other new : StoreForm) (result : Result Bool Refusal)
    → stores ≡ front ++ back → length front ≡ from → place < from → from < length stores → s ≡ get_or front place s → other ≡ get_or back 0 other
    → OnOk result (new.segments ≡ union_of s.segments other.segments) → OnOk result (MergesAt stores place from (slice_set front place new ++ back))
front_merges stores front back place from s other new (Err e) parts is_len before within held lent made = tt
front_merges stores front back place from s other new (Ok u) parts is_len before within held lent made =
    let lengths : length stores ≡ length front + length back = ap length parts ∙ length-append front back in (
      s,
      other,
      new,
      ap (λ (ss : List StoreForm). slice_get ss place) parts ∙ at_left front back place s (omega arith) held,
      ap (λ (ss : List StoreForm). slice_get ss from) parts ∙ at_seam front back from other is_len (omega arith) lent,
      sym (set-append_left front back place new (omega arith)) ∙ ap (λ (ss : List StoreForm). slice_set ss place new) (sym parts),
      made,
    )

-- and into their back
pub back_merges : (stores front back : List StoreForm) (place from : ℕ) (s other new : StoreForm) (result : Result Bool Refusal)
    → stores ≡ front ++ back → length front ≡ place → from < place → place < length stores → s ≡ get_or back 0 s → other ≡ get_or front from other
    → OnOk result (new.segments ≡ union_of s.segments other.segments) → OnOk result (MergesAt stores place from (front ++ slice_set back 0 new))
back_merges stores front back place from s other new (Err e) parts is_len before within held lent made = tt
back_merges stores front back place from s other new (Ok u) parts is_len before within held lent made =
    let lengths : length stores ≡ length front + length back = ap length parts ∙ length-append front back in
    let none : 0 ≡ place - place = omega arith in (
      s,
      other,
      new,
      ap (λ (ss : List StoreForm). slice_get ss place) parts ∙ at_seam front back place s is_len (omega arith) held,
      ap (λ (ss : List StoreForm). slice_get ss from) parts ∙ at_left front back from other (omega arith) lent,
      ap (λ k. front ++ slice_set back k new) none ∙ sym (set-append_right front back place place new is_len (omega arith)) ∙ ap (λ (ss : List StoreForm). slice_set ss place new) (sym parts),
      made,
    )
