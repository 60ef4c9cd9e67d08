-- What ask, serve and take make of a cluster, from what the calls of its replicas answered.
use Rattle.std.specs.Prelude.{◌≡◌, ◌⊎◌, ℕ, zero, suc, ◌<◌, ◌≤◌, true, false, cond, nat_lt, List, [], ◌∷◌, length, slice_get, Option, Some, None, option_and_then, Result, Ok, Err, IsOk, OnOk, OnErr}
use Rattle.std.proofs.Common.{refl, sym, ap, subst, ◌∙◌, inl, inr, arith, get_or}
use Rattle.std.proofs.lemmas.Bool.Decides.{nat_tests}
use Rattle.std.proofs.lemmas.List.{length-map}
use Rattle.table_model.specs.State.{State}
use Rattle.table_model.specs.Table.{Table}
use Rattle.table_model.specs.Outcome.{Acts, Gives}
use Rattle.table_model.specs.declared.refusal.Refusal.{Refusal}
use Rattle.table_model.specs.declared.refusal.Refusal.TheVariants.{Memory, NoSuchReplica, NoSuchMessage, Full}
use Rattle.replica_store.specs.Replica.{Replica}
use Rattle.replica_store.specs.Segments.{StoreForm}
use Rattle.replica_store.specs.Exchange.{SummaryForm, OfferForm, summary_of, offered, applied}
use Rattle.cluster_history.specs.Cluster.{ClusterParts, replicas_in, place_of, numbered, message_limit, where_room, with_message, ask_of, ask_step, offer_message, serve_of, serve_step, taking, take_step, at_replica, at_place, held_at, done_reply, step_of}
use Rattle.cluster_history.specs.Codings.{IsSent, SegmentsAfter}
use Rattle.cluster_history.specs.Message.{Carried, Listing, Offering, carried, listing_in, offering_in, messages_in}
use Rattle.cluster_history.specs.Run.{MayLack, ActsOn}
use Rattle.cluster_history.specs.Segments.{ClusterForm, brought_by}
use Rattle.cluster_history.specs.declared.message.Message.{Message}
use Rattle.cluster_history.specs.declared.reply.Reply.{Reply}
use Rattle.cluster_history.proofs.Placed.{cluster_with, length-replicas_in, found, store_there}
use Rattle.cluster_history.specs.declared.step.Step.{Step}

-- what a message's sending made is what the step makes that sends it
pub sent_as : (old new : ClusterForm) (step : Step) (result : Result Reply Refusal) (message : Message)
    → step_of old.parts step ≡ Ok (with_message old.parts (carried message))
    → (IsOk (step_of old.parts step) → MayLack old.parts step (step_of old.parts step))
    → (IsSent old.segments (brought_by message) new.segments → (reply : Reply) → SegmentsAfter old step reply new.segments)
    → Acts (λ (reply : Reply). reply) old.parts result new.parts (Ok (with_message old.parts (carried message))) → OnOk result (IsSent old.segments (brought_by message) new.segments) → OnErr result (new ≡ old)
    → ActsOn old step result new
sent_as old new step (Ok reply) message made may after acts segments left = (made ∙ acts, after segments reply)
sent_as old new step (Err e) message made may after acts segments left = (
  left,
  elim acts.1 [
    | inl refused ↦ let bad : ◌≡◌ {A = Result (Reply × ClusterParts) Refusal} (Ok (with_message old.parts (carried message))) (Err e) = refused in cc
    | inr lack ↦ inr (lack.0, may (subst (λ (m : Result (Reply × ClusterParts) Refusal). IsOk m) (sym made) lack.1))
  ],
)

-- the replica that stands at the place of its number
pub numbered_store : (c : ClusterParts) (schema : Table) (stores : List StoreForm) (messages : List Carried) (replica at : ℕ) (s : StoreForm)
    → cluster_with schema stores messages ≡ c → Some at ≡ place_of (length c.stores) replica → at < length c.stores → s ≡ get_or stores at s → numbered c.stores replica ≡ Some s.replica
numbered_store c schema stores messages replica at s view is below held =
    let Q : ClusterParts → Type 0 = λ c. Some at ≡ place_of (length c.stores) replica → at < length c.stores → numbered c.stores replica ≡ Some s.replica in
    subst Q view (λ is below.
    ap (option_and_then (slice_get (replicas_in stores))) (sym is) ∙ found stores at s (omega (arith, below, length-replicas_in stores)) held) is below

room : (c : ClusterParts) (made : Result (Reply × ClusterParts) Refusal) → length c.messages < message_limit → where_room c made ≡ made
room c made below =
    let test : nat_lt (length c.messages) message_limit ≡ true = grind (arith, nat_tests) in
    ap (λ b. cond b made (Err Full)) test

no_room : (c : ClusterParts) (made : Result (Reply × ClusterParts) Refusal) → message_limit ≤ length c.messages → where_room c made ≡ Err Full
no_room c made past =
    let test : nat_lt (length c.messages) message_limit ≡ false = grind (arith, nat_tests) in
    ap (λ b. cond b made (Err Full)) test

-- a replica that isn't there isn't asked
pub ask_nowhere : (c : ClusterParts) (replica : ℕ) → None ≡ place_of (length c.stores) replica → ask_step c replica ≡ Err NoSuchReplica
unfolding ask_step
ask_nowhere c replica none = ap (λ (o : Option ℕ). ask_of c (option_and_then (slice_get c.stores) o)) (sym none)

-- there is no room for one more summary
pub ask_full : (c : ClusterParts) (replica : ℕ) (r : Replica) → numbered c.stores replica ≡ Some r → message_limit ≤ length c.messages → ask_step c replica ≡ Err Full
unfolding ask_step
ask_full c replica r has past = ap (ask_of c) has ∙ no_room c (Ok (with_message c (Listing (summary_of r)))) past

-- a replica that is found is there
pub some_numbered : (c : ClusterParts) (schema : Table) (stores : List StoreForm) (messages : List Carried) (replica at : ℕ)
    → cluster_with schema stores messages ≡ c → Some at ≡ place_of (length c.stores) replica → at < length c.stores → (r : Replica) × (numbered c.stores replica ≡ Some r)
some_numbered c schema stores messages replica at view is below =
    let lengths : length c.stores ≡ length stores = ap (λ (d : ClusterParts). length d.stores) (sym view) ∙ length-replicas_in stores in
    let found = store_there stores at (omega (arith, below)) in
    (found.0.replica, numbered_store c schema stores messages replica at found.0 view is below found.1)

-- a summary is sent
pub ask_sends : (c : ClusterParts) (replica : ℕ) (r : Replica) → numbered c.stores replica ≡ Some r → length c.messages < message_limit → ask_step c replica ≡ Ok (with_message c (Listing (summary_of r)))
unfolding ask_step
ask_sends c replica r has below = ap (ask_of c) has ∙ room c (Ok (with_message c (Listing (summary_of r)))) below

-- memory may lack for a summary
pub ask_lacks : (c : ClusterParts) (replica : ℕ) (r : Replica) (e : Refusal) → numbered c.stores replica ≡ Some r → length c.messages < message_limit
    → Gives {X = SummaryForm} {Y = SummaryForm} (λ summary. summary) (Err e) (Ok (summary_of r)) → (ask_step c replica ≡ Err e) ⊎ ((e ≡ Memory) × IsOk (ask_step c replica))
ask_lacks c replica r e has below (inl bad) = let absent : ◌≡◌ {A = Result SummaryForm Refusal} (Ok (summary_of r)) (Err e) = bad in cc
ask_lacks c replica r e has below (inr lack) = inr (lack.0, rw (ask_sends c replica r has below) lack.1)

-- there is room for one more message
pub has_room : (c : ClusterParts) (schema : Table) (stores : List StoreForm) (items : List Message) → cluster_with schema stores (messages_in items) ≡ c → length items < message_limit → length c.messages < message_limit
has_room c schema stores items view below =
    let lengths : length c.messages ≡ length items = ap (λ (d : ClusterParts). length d.messages) (sym view) ∙ length-map items carried in
    omega (arith, below)

-- there is no room for one more message
pub is_full : (c : ClusterParts) (schema : Table) (stores : List StoreForm) (items : List Message) → cluster_with schema stores (messages_in items) ≡ c → message_limit ≤ length items → message_limit ≤ length c.messages
is_full c schema stores items view past =
    let lengths : length c.messages ≡ length items = ap (λ (d : ClusterParts). length d.messages) (sym view) ∙ length-map items carried in
    omega (arith, past)

pub same_ok : (summary other : SummaryForm) → ◌≡◌ {A = Result SummaryForm Refusal} (Ok summary) (Ok other) → summary ≡ other
same_ok summary other e = cc

-- the same summary is the same message
pub summary_sent : (c : ClusterParts) (summary other : SummaryForm) → summary ≡ other → ◌≡◌ {A = Result (Reply × ClusterParts) Refusal} (Ok (with_message c (Listing summary))) (Ok (with_message c (Listing other)))
summary_sent c summary other same = ap (λ (s : SummaryForm). let made : Result (Reply × ClusterParts) Refusal = Ok (with_message c (Listing s)) in made) same

serve_is : (c : ClusterParts) (replica message : ℕ) (r : Replica) (o : Option SummaryForm) → numbered c.stores replica ≡ Some r → o ≡ listing_in (numbered c.messages message) → serve_step c replica message ≡ serve_of c (Some r) o
unfolding serve_step
serve_is c replica message r o has is = λ i. serve_of c (has i) (sym is i)

-- a replica that isn't there serves nothing
pub serve_nowhere : (c : ClusterParts) (replica message : ℕ) → None ≡ place_of (length c.stores) replica → serve_step c replica message ≡ Err NoSuchReplica
unfolding serve_step
serve_nowhere c replica message none = ap (λ (o : Option ℕ). serve_of c (option_and_then (slice_get c.stores) o) (listing_in (numbered c.messages message))) (sym none)

-- there is no such summary
pub serve_none : (c : ClusterParts) (replica message : ℕ) (r : Replica) → numbered c.stores replica ≡ Some r → None ≡ listing_in (numbered c.messages message) → serve_step c replica message ≡ Err NoSuchMessage
serve_none c replica message r has none = serve_is c replica message r None has none

-- there is no room for one more message
pub serve_full : (c : ClusterParts) (replica message : ℕ) (r : Replica) (summary : SummaryForm) → numbered c.stores replica ≡ Some r → Some summary ≡ listing_in (numbered c.messages message) → message_limit ≤ length c.messages
    → serve_step c replica message ≡ Err Full
serve_full c replica message r summary has is past = serve_is c replica message r (Some summary) has is ∙ no_room c (offer_message c r.schema (offered r summary)) past

serve_room : (c : ClusterParts) (replica message : ℕ) (r : Replica) (summary : SummaryForm) → numbered c.stores replica ≡ Some r → Some summary ≡ listing_in (numbered c.messages message) → length c.messages < message_limit
    → serve_step c replica message ≡ offer_message c r.schema (offered r summary)
serve_room c replica message r summary has is below = serve_is c replica message r (Some summary) has is ∙ room c (offer_message c r.schema (offered r summary)) below

-- an offer is sent
pub serve_sends : (c : ClusterParts) (replica message : ℕ) (r : Replica) (summary : SummaryForm) (schema : Table) (state : State)
    → numbered c.stores replica ≡ Some r → Some summary ≡ listing_in (numbered c.messages message) → length c.messages < message_limit
    → schema ≡ r.schema → offered r summary ≡ Ok state → serve_step c replica message ≡ Ok (with_message c (Offering schema state))
serve_sends c replica message r summary schema state has is below tables made =
    serve_room c replica message r summary has is below ∙ (λ i. offer_message c (sym tables i) (made i))

offer_ok : (c : ClusterParts) (table : Table) (made : Result State Refusal) → IsOk made → IsOk (offer_message c table made)
offer_ok c table (Ok state) ok = ok
offer_ok c table (Err e) ok = ok

-- an offer is refused
pub serve_refused : (c : ClusterParts) (replica message : ℕ) (r : Replica) (summary : SummaryForm) (e : Refusal)
    → numbered c.stores replica ≡ Some r → Some summary ≡ listing_in (numbered c.messages message) → length c.messages < message_limit
    → (offered r summary ≡ Err e) ⊎ ((e ≡ Memory) × IsOk (offered r summary)) → (serve_step c replica message ≡ Err e) ⊎ ((e ≡ Memory) × IsOk (serve_step c replica message))
serve_refused c replica message r summary e has is below (inl refused) = inl (serve_room c replica message r summary has is below ∙ ap (offer_message c r.schema) refused)
serve_refused c replica message r summary e has is below (inr lack) =
    inr (lack.0, rw (serve_room c replica message r summary has is below) (offer_ok c r.schema (offered r summary) lack.1))

-- what a message says is said of the messages of the cluster's parts
pub said_of : {X : Type 0} (read : List Carried → X) (c : ClusterParts) (schema : Table) (stores : List StoreForm) (items slice : List Message) (x : X)
    → cluster_with schema stores (messages_in items) ≡ c → slice ≡ items → x ≡ read (messages_in slice) → x ≡ read c.messages
said_of read c schema stores items slice x view same is =
    is ∙ ap (λ (ms : List Message). read (messages_in ms)) same ∙ ap (λ (d : ClusterParts). read d.messages) view

-- what taking an offer makes of a replica is what applying it makes
pub taking_is : (c : ClusterParts) (message : ℕ) (offer : OfferForm) (r : Replica) → (let o : Table × State = (offer.schema, offer.state) in Some o) ≡ offering_in (numbered c.messages message)
    → taking (offering_in (numbered c.messages message)) r ≡ applied r offer
taking_is c message offer r is = ap (λ (o : Option (Table × State)). taking o r) (sym is)

-- and so where it is refused
pub taking_acts : (c : ClusterParts) (message : ℕ) (offer : OfferForm) (r new : Replica) (e : Refusal) → (let o : Table × State = (offer.schema, offer.state) in Some o) ≡ offering_in (numbered c.messages message)
    → (new ≡ r) × ((applied r offer ≡ Err e) ⊎ ((e ≡ Memory) × IsOk (applied r offer)))
    → (new ≡ r) × ((taking (offering_in (numbered c.messages message)) r ≡ Err e) ⊎ ((e ≡ Memory) × IsOk (taking (offering_in (numbered c.messages message)) r)))
taking_acts c message offer r new e is acts =
    let P : Result (Unit {0} × Replica) Refusal → Type 0 = λ made. (new ≡ r) × ((made ≡ Err e) ⊎ ((e ≡ Memory) × IsOk made)) in
    subst P (sym (taking_is c message offer r is)) acts

past : (stores : List Replica) (at : ℕ) → at < length stores → slice_get stores at ≡ None → ⊥
past [] at below none = absurd (omega arith)
past (r ∷ stores) zero below none = cc
past (r ∷ stores) (suc at) below none = past stores at (omega arith) none

-- there is no such offer
pub take_none : (c : ClusterParts) (replica message at : ℕ) → Some at ≡ place_of (length c.stores) replica → at < length c.stores → None ≡ offering_in (numbered c.messages message) → take_step c replica message ≡ Err NoSuchMessage
unfolding take_step
take_none c replica message at is below none =
    ap (λ (o : Option (Table × State)). at_replica done_reply c replica (taking o)) (sym none)
    ∙ ap (at_place done_reply c (taking None)) (sym is)
    ∙ elim (slice_get c.stores at) as (λ o. slice_get c.stores at ≡ o → held_at done_reply c at (taking None) o ≡ Err NoSuchMessage) [
      | Some r ↦ λ has. refl
      | None ↦ λ has. absurd (past c.stores at below has)
    ] refl
