-- Clusters: a table at replicas and the messages between them, both numbered from 1, and what each step makes of one.
use Rattle.std.specs.Prelude.{ℕ, zero, suc, ◌+◌, ◌-◌, cond, ◌&&◌, ◌==◌, nat_le, List, [], ◌∷◌, ◌++◌, length, map, slice_get, slice_set, Option, Some, None, option_and_then, Result, Ok, Err, nat_lt, refl}
use Rattle.std.specs.Coded.{Coded, code_by, coded×, coded_list}
use Rattle.table_model.specs.Answer.{AnswerParts}
use Rattle.table_model.specs.State.{State, Batch, empty_state}
use Rattle.table_model.specs.Table.{Table, coded_table}
use Rattle.table_model.specs.declared.names.BatchName.{BatchName}
use Rattle.table_model.specs.declared.names.RowName.{RowName}
use Rattle.table_model.specs.declared.refusal.Refusal.{Refusal}
use Rattle.table_model.specs.declared.refusal.Refusal.TheVariants.{NoSuchReplica, NoSuchMessage, Full}
use Rattle.replica_store.specs.Replica.{Replica, coded_replica, appended, inserted, deleted_rows, with_deleted, merged, recoded_rows}
use Rattle.replica_store.specs.Segments.{StoreForm}
use Rattle.store_view.specs.Asked.{query_answer, condition_names}
use Rattle.replica_store.specs.Exchange.{SummaryForm, OfferForm, summary_of, offered, applied}
use Rattle.column_file.specs.Files.{canonical_file, canonical_read}
use Rattle.cluster_history.specs.Message.{Carried, Listing, Offering, coded_message, listing_in, offering_in}
use Rattle.cluster_history.specs.declared.reply.Reply.{Reply}
use Rattle.cluster_history.specs.declared.reply.Reply.TheVariants.{Done, Named, Put, Deleted, Sent, File, Answered}
use Rattle.cluster_history.specs.declared.step.Step.{Step}
use Rattle.cluster_history.specs.declared.step.Step.TheVariants.{Append, Insert, Delete, DeleteWhere, Merge, Ask, Serve, Take, Recode, Open, Export, Query}

-- how many replicas a cluster has at most
abbrev pub replica_limit : ℕ
replica_limit = 64

-- a table's schema, its replicas and the messages between them, the first of each number 1
pub record ClusterParts : Type 0 where
  pub schema : Table
  pub stores : List Replica
  pub messages : List Carried

-- a cluster's parts as a tuple
abbrev pub coded_parts : Coded ClusterParts
coded_parts =
    code_by (Table × (List Replica × List Carried)) (coded× coded_table (coded× (coded_list coded_replica) (coded_list coded_message))) (λ c. (c.schema, (c.stores, c.messages)))
    (λ p. record { schema = p.0; stores = p.1.0; messages = p.1.1 }) (λ _. refl)

-- the replicas that stores are
abbrev pub replicas_in : List StoreForm → List Replica
replicas_in stores = map (λ s. s.replica) stores

-- a replica with nothing in it
abbrev pub empty_replica : Table → ℕ → Replica
empty_replica table own = record { schema = table; own = record { 0 = own }; state = empty_state }

-- a number of new replicas, the first having this number as its own origin
abbrev pub new_replicas : Table → ℕ → ℕ → List Replica
new_replicas table first zero = []
new_replicas table first (suc count) = empty_replica table first ∷ new_replicas table (first + 1) count

-- a new cluster: replica i has own origin i, and there is no message
unfoldable pub new_cluster : Table → ℕ → ClusterParts
new_cluster table count = record { schema = table; stores = new_replicas table 1 count; messages = [] }

-- the place of a number among a count, which are counted from 1
abbrev pub place_of : ℕ → ℕ → Option ℕ
place_of count replica = cond (nat_le 1 replica && nat_le replica count) (Some (replica - 1)) None

-- the cluster with another replica at a place
abbrev pub with_store : ClusterParts → ℕ → Replica → ClusterParts
with_store c at r = record c { stores = slice_set c.stores at r }

-- the reply and the cluster, where a call made a result of the replica at a place
abbrev pub placed : {X : Type 0} → (X → Reply) → ClusterParts → ℕ → Result (X × Replica) Refusal → Result (Reply × ClusterParts) Refusal
placed reply c at (Ok done) = Ok (reply done.0, with_store c at done.1)
placed reply c at (Err e) = Err e

-- what a call makes of the replica at a place
abbrev pub held_at : {X : Type 0} → (X → Reply) → ClusterParts → ℕ → (Replica → Result (X × Replica) Refusal) → Option Replica → Result (Reply × ClusterParts) Refusal
held_at reply c at call None = Err NoSuchReplica
held_at reply c at call (Some r) = placed reply c at (call r)

-- what a call makes of the replica at a place, if there is such a place
abbrev pub at_place : {X : Type 0} → (X → Reply) → ClusterParts → (Replica → Result (X × Replica) Refusal) → Option ℕ → Result (Reply × ClusterParts) Refusal
at_place reply c call None = Err NoSuchReplica
at_place reply c call (Some at) = held_at reply c at call (slice_get c.stores at)

-- what a call makes of the replica with a number
abbrev pub at_replica : {X : Type 0} → (X → Reply) → ClusterParts → ℕ → (Replica → Result (X × Replica) Refusal) → Result (Reply × ClusterParts) Refusal
at_replica reply c replica call = at_place reply c call (place_of (length c.stores) replica)

-- the reply to a step that answers nothing but that it is done
abbrev pub done_reply : Unit {0} → Reply
done_reply u = Done

-- append at a replica
unfoldable pub append_step : ClusterParts → ℕ → Batch → Result (Reply × ClusterParts) Refusal
append_step c replica rows = at_replica Named c replica (λ r. appended r rows)

-- insert at a replica
unfoldable pub insert_step : ClusterParts → ℕ → BatchName → Batch → Result (Reply × ClusterParts) Refusal
insert_step c replica name rows = at_replica Put c replica (λ r. inserted r name rows)

-- delete at a replica
unfoldable pub delete_step : ClusterParts → ℕ → RowName → ℕ → Result (Reply × ClusterParts) Refusal
delete_step c replica first last = at_replica done_reply c replica (λ r. deleted_rows r first last)

-- how many rows were found, and the replica with them deleted
abbrev pub then_deleted : Replica → Result (List RowName) Refusal → Result (ℕ × Replica) Refusal
then_deleted r (Ok names) = Ok (length names, with_deleted r names)
then_deleted r (Err e) = Err e

-- what a delete by the condition that a text is makes of a replica: the rows that aren't deleted and at which it is true are deleted
abbrev pub deleting : List ℕ → Replica → Result (ℕ × Replica) Refusal
deleting text r = then_deleted r (condition_names text r.schema r.state)

-- delete at a replica by the condition that a text is
unfoldable pub delete_where_step : ClusterParts → ℕ → List ℕ → Result (Reply × ClusterParts) Refusal
delete_where_step c replica text = at_replica Deleted c replica (deleting text)

-- to put a vector of a batch at a replica into another coding leaves the replica
unfoldable pub recode_step : ClusterParts → ℕ → BatchName → ℕ → ℕ → Result (Reply × ClusterParts) Refusal
recode_step c replica name column vector = at_replica done_reply c replica (λ r. recoded_rows r name column vector)

-- the replicas after a call of the one at a place
abbrev pub stored : List Replica → ℕ → Result (Unit {0} × Replica) Refusal → Result (Unit {0} × List Replica) Refusal
stored stores at (Ok done) = Ok (tt, slice_set stores at done.1)
stored stores at (Err e) = Err e

-- the replicas after the one at a place was merged with another, where both are there
abbrev pub merged_pair : List Replica → ℕ → Option Replica → Option Replica → Result (Unit {0} × List Replica) Refusal
merged_pair stores at None other = Err NoSuchReplica
merged_pair stores at (Some r) None = Err NoSuchReplica
merged_pair stores at (Some r) (Some other) = stored stores at (merged r other)

-- the replicas after the one at a place was merged with the one at another
unfoldable pub merged_in : List Replica → ℕ → ℕ → Result (Unit {0} × List Replica) Refusal
merged_in stores at from = merged_pair stores at (slice_get stores at) (slice_get stores from)

-- the reply to a merge, and the cluster after it
abbrev pub merge_reply : ClusterParts → Result (Unit {0} × List Replica) Refusal → Result (Reply × ClusterParts) Refusal
merge_reply c (Ok done) = Ok (Done, record c { stores = done.1 })
merge_reply c (Err e) = Err e

-- merge of the replica at a place with the one at another; with itself nothing changes
abbrev pub merge_places : ClusterParts → Option ℕ → Option ℕ → Result (Reply × ClusterParts) Refusal
merge_places c None from = Err NoSuchReplica
merge_places c (Some at) None = Err NoSuchReplica
merge_places c (Some at) (Some from) = cond (at == from) (Ok (Done, c)) (merge_reply c (merged_in c.stores at from))

-- merge of a replica with another; with itself nothing changes
unfoldable pub merge_step : ClusterParts → ℕ → ℕ → Result (Reply × ClusterParts) Refusal
merge_step c replica other = merge_places c (place_of (length c.stores) replica) (place_of (length c.stores) other)

-- the element with a number, counted from 1
abbrev pub numbered : {X : Type 0} → List X → ℕ → Option X
numbered xs number = option_and_then (slice_get xs) (place_of (length xs) number)

-- how many messages a cluster has at most
abbrev pub message_limit : ℕ
message_limit = 65536

-- a message that there is room for comes behind the others, and its number is answered
abbrev pub with_message : ClusterParts → Carried → Reply × ClusterParts
with_message c message = (Sent (length c.messages + 1), record c { messages = c.messages ++ (message ∷ []) })

-- what is made of a cluster that has room for one more message
abbrev pub where_room : ClusterParts → Result (Reply × ClusterParts) Refusal → Result (Reply × ClusterParts) Refusal
where_room c made = cond (nat_lt (length c.messages) message_limit) made (Err Full)

-- a summary of a replica, if there is the replica, is one more message
abbrev pub ask_of : ClusterParts → Option Replica → Result (Reply × ClusterParts) Refusal
ask_of c None = Err NoSuchReplica
ask_of c (Some r) = where_room c (Ok (with_message c (Listing (summary_of r))))

-- ask: a replica's summary is one more message
unfoldable pub ask_step : ClusterParts → ℕ → Result (Reply × ClusterParts) Refusal
ask_step c replica = ask_of c (numbered c.stores replica)

-- an offer of a replica of this schema is one more message
abbrev pub offer_message : ClusterParts → Table → Result State Refusal → Result (Reply × ClusterParts) Refusal
offer_message c table (Ok state) = Ok (with_message c (Offering table state))
offer_message c table (Err e) = Err e

-- a replica's offer to a summary, if there are both
abbrev pub serve_of : ClusterParts → Option Replica → Option SummaryForm → Result (Reply × ClusterParts) Refusal
serve_of c None summary = Err NoSuchReplica
serve_of c (Some r) None = Err NoSuchMessage
serve_of c (Some r) (Some summary) = where_room c (offer_message c r.schema (offered r summary))

-- serve: a replica's offer to the summary that is the message with a number is one more message
unfoldable pub serve_step : ClusterParts → ℕ → ℕ → Result (Reply × ClusterParts) Refusal
serve_step c replica message = serve_of c (numbered c.stores replica) (listing_in (numbered c.messages message))

-- what taking an offer makes of a replica: as a merge with a replica that is what is offered
abbrev pub taking : Option (Table × State) → Replica → Result (Unit {0} × Replica) Refusal
taking None r = Err NoSuchMessage
taking (Some offer) r = merged r (record { schema = offer.0; own = r.own; state = offer.1 })

-- take: the offer that is the message with a number is applied at a replica
unfoldable pub take_step : ClusterParts → ℕ → ℕ → Result (Reply × ClusterParts) Refusal
take_step c replica message = at_replica done_reply c replica (taking (offering_in (numbered c.messages message)))

-- what a canonical file, or its refusal, makes of a replica: as a merge with a replica that has what the file holds
abbrev pub opening : Result OfferForm Refusal → Replica → Result (Unit {0} × Replica) Refusal
opening (Err e) r = Err e
opening (Ok held) r = applied r held

-- open: what a canonical file holds is merged into a replica
unfoldable pub open_step : ClusterParts → ℕ → List ℕ → Result (Reply × ClusterParts) Refusal
open_step c replica file = at_replica done_reply c replica (opening (canonical_read file))

-- the reply to a question, which leaves the cluster
abbrev pub told : ClusterParts → Result Reply Refusal → Result (Reply × ClusterParts) Refusal
told c (Ok reply) = Ok (reply, c)
told c (Err e) = Err e

-- a question of a schema and a state, asked of a replica
abbrev pub asked_of : ClusterParts → (Table → State → Result Reply Refusal) → Option Replica → Result (Reply × ClusterParts) Refusal
asked_of c question None = Err NoSuchReplica
asked_of c question (Some r) = told c (question r.schema r.state)

-- the same of the replica at a place
abbrev pub asked_place : ClusterParts → (Table → State → Result Reply Refusal) → Option ℕ → Result (Reply × ClusterParts) Refusal
asked_place c question None = Err NoSuchReplica
asked_place c question (Some at) = asked_of c question (slice_get c.stores at)

-- the same of the replica with a number
abbrev pub asked_at : ClusterParts → ℕ → (Table → State → Result Reply Refusal) → Result (Reply × ClusterParts) Refusal
asked_at c replica question = asked_place c question (place_of (length c.stores) replica)

-- the canonical file of a table's state, as a reply
abbrev pub export_reply : Table → State → Result Reply Refusal
export_reply table state = Ok (File (canonical_file table state))

-- export: the canonical file of a replica
unfoldable pub export_step : ClusterParts → ℕ → Result (Reply × ClusterParts) Refusal
export_step c replica = asked_at c replica export_reply

-- an answer as a reply
abbrev pub answer_reply : Result AnswerParts Refusal → Result Reply Refusal
answer_reply (Ok answer) = Ok (Answered answer)
answer_reply (Err e) = Err e

-- what the text of a query is answered at a table's state
abbrev pub query_reply : List ℕ → Table → State → Result Reply Refusal
query_reply sql table state = answer_reply (query_answer sql table state)

-- query: what its text is answered at a replica
unfoldable pub query_step : ClusterParts → ℕ → List ℕ → Result (Reply × ClusterParts) Refusal
query_step c replica sql = asked_at c replica (query_reply sql)

-- what a step makes of a cluster: the reply and the cluster after it, or the refusal
abbrev pub step_of : ClusterParts → Step → Result (Reply × ClusterParts) Refusal
step_of c (Append replica rows) = append_step c replica rows
step_of c (Insert replica name rows) = insert_step c replica name rows
step_of c (Delete replica first last) = delete_step c replica first last
step_of c (DeleteWhere replica text) = delete_where_step c replica text
step_of c (Merge replica other) = merge_step c replica other
step_of c (Ask replica) = ask_step c replica
step_of c (Serve replica message) = serve_step c replica message
step_of c (Take replica message) = take_step c replica message
step_of c (Recode replica name column vector coding) = recode_step c replica name column vector
step_of c (Open replica file) = open_step c replica file
step_of c (Export replica) = export_step c replica
step_of c (Query replica sql) = query_step c replica sql
