-- Histories: what each replica took and what each message brings, read off the steps and their replies alone, and that it decides what they are.
use Rattle.std.specs.Prelude.{◌≡◌, ℕ, zero, suc, ◌+◌, Bool, cond, List, [], ◌∷◌, ◌++◌, map, length, slice_set, slice_index_or, Option, Some, None, IsSome, option_map, Result, Ok, Err}
use Rattle.std.specs.FinSet as set
use Rattle.std.specs.List.{list_any}
use Rattle.std.specs.Ordering.{eq_by_cmp}
use Rattle.table_model.specs.Name.{name_cmp}
use Rattle.table_model.specs.Operation.{Operation, Insert as Inserts, Delete as Deletes, AreAgreeing, SameOperations, inserts_of, state_of, operations_of}
use Rattle.table_model.specs.declared.names.BatchName.{BatchName}
use Rattle.table_model.specs.declared.names.RowName.{RowName}
use Rattle.table_model.specs.State.{Batch}
use Rattle.table_model.specs.Table.{Table}
use Rattle.column_file.specs.Files.{canonical_file, canonical_read}
use Rattle.replica_store.specs.Exchange.{OfferForm}
use Rattle.table_model.specs.declared.refusal.Refusal.{Refusal}
use Rattle.replica_store.specs.Replica.{Replica, rows_between}
use Rattle.store_view.specs.Asked.{condition_names}
use Rattle.cluster_history.specs.Cluster.{ClusterParts, new_cluster, place_of, numbered, step_of}
use Rattle.cluster_history.specs.Message.{Carried, Listing, Offering}
use Rattle.cluster_history.specs.Run.{Run, answered}
use Rattle.cluster_history.specs.declared.reply.Reply.{Reply}
use Rattle.cluster_history.specs.declared.reply.Reply.TheVariants.{Done, Named, Put, Deleted, Sent, File, Refused}
use Rattle.cluster_history.specs.declared.step.Step.{Step}
use Rattle.cluster_history.specs.declared.step.Step.TheVariants.{Append, Insert, Delete, DeleteWhere, Merge, Ask, Serve, Take, Open, Export, Query}

-- What a message brings, by the history alone: names of batches, or operations. These too are sets, as lists of which only the members matter.
pub data Brought : Type 0 where
  Names : List BatchName → Brought
  Operations : List Operation → Brought

-- What was taken by each replica, and what each message brings, the first of each number 1. What a replica took is a set of operations, as a list of which only the members matter.
pub record Taken : Type 0 where
  pub replicas : List (List Operation)
  pub messages : List Brought

-- a number of sets without an operation
abbrev pub empty_sets : ℕ → List (List Operation)
empty_sets zero = []
empty_sets (suc count) = [] ∷ empty_sets count

-- nothing was taken by a number of replicas, and there is no message
abbrev pub new_taken : ℕ → Taken
new_taken count = record { replicas = empty_sets count; messages = [] }

-- the set at a place, empty where there is no place
abbrev pub set_at : List (List Operation) → Option ℕ → List Operation
set_at sets None = []
set_at sets (Some at) = slice_index_or sets at []

-- what the replica with a number took
abbrev pub taken_of : Taken → ℕ → List Operation
taken_of taken replica = set_at taken.replicas (place_of (length taken.replicas) replica)

-- the names of the batches that came
abbrev pub names_in : List Operation → List BatchName
names_in ops = map (λ (e : BatchName × Batch). e.0) (inserts_of ops)

-- whether a name is one of a list
abbrev pub is_listed : BatchName → List BatchName → Bool
is_listed name names = list_any (eq_by_cmp name_cmp name) names

-- the operations but the inserts under these names
abbrev pub lacking : List BatchName → List Operation → List Operation
lacking names [] = []
lacking names (Inserts name rows ∷ ops) = cond (is_listed name names) (lacking names ops) (Inserts name rows ∷ lacking names ops)
lacking names (Deletes row ∷ ops) = Deletes row ∷ lacking names ops

-- the names that a message brings, if it brings names
abbrev pub brought_names : Option Brought → Option (List BatchName)
brought_names None = None
brought_names (Some (Names names)) = Some names
brought_names (Some (Operations ops)) = None

-- the operations that a message brings, if it brings operations
abbrev pub brought_operations : Option Brought → Option (List Operation)
brought_operations None = None
brought_operations (Some (Names names)) = None
brought_operations (Some (Operations ops)) = Some ops

-- what is in a list that may be there
abbrev pub or_empty : {X : Type 0} → Option (List X) → List X
or_empty None = []
or_empty (Some xs) = xs

-- the names that the message with a number brings; none where it brings no names
abbrev pub names_by : Taken → ℕ → List BatchName
names_by taken message = or_empty (brought_names (numbered taken.messages message))

-- the operations that the message with a number brings; none where it brings no operations
abbrev pub operations_by : Taken → ℕ → List Operation
operations_by taken message = or_empty (brought_operations (numbered taken.messages message))

-- the operations of what a canonical file holds; none where it isn't one
abbrev pub operations_held : Result OfferForm Refusal → List Operation
operations_held (Ok held) = operations_of held.state
operations_held (Err e) = []

-- the names of the rows that a condition found; none where it was refused
abbrev pub names_found : Result (List RowName) Refusal → List RowName
names_found (Ok names) = names
names_found (Err e) = []

-- one delete for each row of the state of what was taken that isn't deleted there and at which the condition that a text is is true
abbrev pub deletes_where : Table → List ℕ → List Operation → List Operation
deletes_where table text ops = map Deletes (names_found (condition_names text table (state_of ops)))

-- what a step adds to what was taken: nothing, or to one replica these operations, or one more message
pub data Addition : Type 0 where
  Nothing : Addition
  ToReplica : ℕ → List Operation → Addition
  OneMessage : Brought → Addition

-- what a step of a table adds that has this reply: nothing, but for the steps that are named here
abbrev pub added : Table → Taken → Step → Reply → Addition
added table taken (Append replica rows) (Named name) = ToReplica replica (Inserts name rows ∷ [])
added table taken (Insert replica name rows) (Put answer) = ToReplica replica (Inserts name rows ∷ [])
added table taken (Delete replica first last) Done = ToReplica replica (map Deletes (rows_between first last))
added table taken (DeleteWhere replica text) (Deleted count) = ToReplica replica (deletes_where table text (taken_of taken replica))
added table taken (Merge replica other) Done = ToReplica replica (taken_of taken other)
added table taken (Ask replica) (Sent number) = OneMessage (Names (names_in (taken_of taken replica)))
added table taken (Serve replica message) (Sent number) = OneMessage (Operations (lacking (names_by taken message) (taken_of taken replica)))
added table taken (Take replica message) Done = ToReplica replica (operations_by taken message)
added table taken (Open replica file) Done = ToReplica replica (operations_held (canonical_read file))
added table taken step reply = Nothing

-- the sets with more operations in the one at a place
abbrev pub with_set : List (List Operation) → Option ℕ → List Operation → List (List Operation)
with_set sets None ops = sets
with_set sets (Some at) ops = slice_set sets at (ops ++ slice_index_or sets at [])

-- what was taken, with an addition
abbrev pub with_added : Taken → Addition → Taken
with_added taken Nothing = taken
with_added taken (OneMessage message) = record taken { messages = taken.messages ++ (message ∷ []) }
with_added taken (ToReplica replica ops) = record taken { replicas = with_set taken.replicas (place_of (length taken.replicas) replica) ops }

-- what is taken once a step has its reply
abbrev pub taken_after : Table → Taken → Step → Reply → Taken
taken_after table taken step reply = with_added taken (added table taken step reply)

-- what is taken in the end of a history
abbrev pub taken_by : Table → Taken → List Step → List Reply → Taken
taken_by table taken (step ∷ steps) (reply ∷ replies) = taken_by table (taken_after table taken step reply) steps replies
taken_by table taken (step ∷ steps) [] = taken
taken_by table taken [] replies = taken

-- the replica that is its table's schema, its own origin and the state of what it took
abbrev pub replica_of : Table → ℕ → List Operation → Replica
replica_of table own ops = record { schema = table; own = record { 0 = own }; state = state_of ops }

-- the replicas of what each took, the first having this number as its own origin
abbrev pub replicas_of : Table → ℕ → List (List Operation) → List Replica
replicas_of table first [] = []
replicas_of table first (ops ∷ sets) = replica_of table first ops ∷ replicas_of table (first + 1) sets

-- the message that brings this: a summary of the names, or an offer of the state of the operations, of one schema
abbrev pub message_of : Table → Brought → Carried
message_of table (Names names) = Listing (record { schema = table; names = set.from_list names })
message_of table (Operations ops) = Offering table (state_of ops)

-- the cluster of what was taken
abbrev pub cluster_of : Table → Taken → ClusterParts
cluster_of table taken = record { schema = table; stores = replicas_of table 1 taken.replicas; messages = map (message_of table) taken.messages }

-- no set has two lists of rows under one name
abbrev pub EachAgrees : List (List Operation) → Type 0
EachAgrees [] = Unit {0}
EachAgrees (ops ∷ sets) = AreAgreeing ops × EachAgrees sets

-- no message brings two lists of rows under one name
abbrev pub AllBringOne : List Brought → Type 0
AllBringOne [] = Unit {0}
AllBringOne (Names names ∷ messages) = AllBringOne messages
AllBringOne (Operations ops ∷ messages) = AreAgreeing ops × AllBringOne messages

-- no replica took two lists of rows under one name, and no message brings two
abbrev pub AllAgree : Taken → Type 0
AllAgree taken = EachAgrees taken.replicas × AllBringOne taken.messages

-- a new cluster is that of replicas that took nothing
abbrev pub StartsEmpty : Type 0
StartsEmpty = (table : Table) (count : ℕ) → (new_cluster table count ≡ cluster_of table (new_taken count)) × AllAgree (new_taken count)

-- a run from the cluster of what was taken, by earlier runs or by none, ends with that of what is taken then, and that agrees
abbrev pub GoesOnFrom : Type 0
GoesOnFrom = (table : Table) (taken : Taken) (steps : List Step) (replies : List Reply) (new : ClusterParts) →
    AllAgree taken → Run (cluster_of table taken) steps replies new →
    (new ≡ cluster_of table (taken_by table taken steps replies)) × AllAgree (taken_by table taken steps replies)

-- once made, a message stays at its number
abbrev pub MessagesStay : Type 0
MessagesStay = (old new : ClusterParts) (steps : List Step) (replies : List Reply) → Run old steps replies new → (more : List Carried) × (new.messages ≡ old.messages ++ more)

-- two messages bring the same: the same names, or the same operations, in whatever order and however often
abbrev pub SameBrought : Brought → Brought → Type 0
SameBrought (Names names) (Names others) = (name : BatchName) → is_listed name names ≡ is_listed name others
SameBrought (Operations ops) (Operations others) = SameOperations ops others
SameBrought (Names names) (Operations ops) = ⊥
SameBrought (Operations ops) (Names names) = ⊥

-- messages of one table that bring the same, in whatever histories, are equal
abbrev pub SameMessagesAreEqual : Type 0
SameMessagesAreEqual = (table : Table) (message other : Brought) → AllBringOne (message ∷ []) → SameBrought message other → message_of table message ≡ message_of table other

-- a refused step adds nothing
abbrev pub RefusedAddNothing : Type 0
RefusedAddNothing = (table : Table) (taken : Taken) (step : Step) (refusal : Refusal) → taken_after table taken step (Refused refusal) ≡ taken

-- a run after a run is a run
abbrev pub RunsJoin : Type 0
RunsJoin = (old mid new : ClusterParts) (steps later : List Step) (replies later_replies : List Reply) →
    Run old steps replies mid → Run mid later later_replies new → Run old (steps ++ later) (replies ++ later_replies) new

-- a later part of a run is a run from the cluster of what was taken before it: so each reply is that of its step there
abbrev pub RepliesFollow : Type 0
RepliesFollow = (table : Table) (taken : Taken) (steps later : List Step) (replies later_replies : List Reply) (new : ClusterParts) →
    AllAgree taken → length steps ≡ length replies → Run (cluster_of table taken) (steps ++ later) (replies ++ later_replies) new →
    Run (cluster_of table (taken_by table taken steps replies)) later later_replies new

-- a step that only reads, asked of the replica with this number instead; the steps that only read are those that are named here
abbrev pub reading_at : ℕ → Step → Option Step
reading_at replica (Query asked sql) = Some (Query replica sql)
reading_at replica (Export asked) = Some (Export replica)
reading_at replica step = None

-- a step that only reads leaves the cluster, and adds nothing
abbrev pub ReadsLeaveAll : Type 0
ReadsLeaveAll = (c : ClusterParts) (table : Table) (taken : Taken) (replica : ℕ) (step asked : Step) (reply : Reply) →
    reading_at replica step ≡ Some asked → ((answered (step_of c asked) c).1 ≡ c) × (taken_after table taken asked reply ≡ taken)

-- the reply to a step
abbrev pub reply_to : ClusterParts → Step → Reply
reply_to c step = (answered (step_of c step) c).0

-- the replica with a number
abbrev pub replica_numbered : ClusterParts → ℕ → Option Replica
replica_numbered c replica = numbered c.stores replica

-- the replicas with these numbers in two clusters have equal states, or neither is there, and each step that only reads is answered alike by both
abbrev pub AreAlike : ClusterParts → ℕ → ClusterParts → ℕ → Type 0
AreAlike c replica d other =
    (option_map (λ r. r.state) (replica_numbered c replica) ≡ option_map (λ r. r.state) (replica_numbered d other)) ×
    ((step asked other_asked : Step) → reading_at replica step ≡ Some asked → reading_at other step ≡ Some other_asked → reply_to c asked ≡ reply_to d other_asked)

-- replicas of one table that took the same, wherever each took it, are alike
abbrev pub SameAreAlike : Type 0
SameAreAlike = (table : Table) (taken other_taken : Taken) (replica other : ℕ) →
    AllAgree taken → AllAgree other_taken →
    IsSome (replica_numbered (cluster_of table taken) replica) → IsSome (replica_numbered (cluster_of table other_taken) other) →
    SameOperations (taken_of taken replica) (taken_of other_taken other) →
    AreAlike (cluster_of table taken) replica (cluster_of table other_taken) other

-- so in any two histories of one table, from new clusters, replicas that took the same are alike
abbrev pub SameInHistories : Type 0
SameInHistories = (table : Table) (count other_count : ℕ) (steps other_steps : List Step) (replies other_replies : List Reply) (new other_new : ClusterParts) (replica other : ℕ) →
    Run (new_cluster table count) steps replies new → Run (new_cluster table other_count) other_steps other_replies other_new →
    IsSome (replica_numbered new replica) → IsSome (replica_numbered other_new other) →
    SameOperations (taken_of (taken_by table (new_taken count) steps replies) replica) (taken_of (taken_by table (new_taken other_count) other_steps other_replies) other) →
    AreAlike new replica other_new other

-- the export of a replica is the canonical file of the state of what it took
abbrev pub ExportsAreCanonical : Type 0
ExportsAreCanonical = (table : Table) (taken : Taken) (replica : ℕ) →
    IsSome (replica_numbered (cluster_of table taken) replica) → reply_to (cluster_of table taken) (Export replica) ≡ File (canonical_file table (state_of (taken_of taken replica)))

-- so in any two histories of one table, from new clusters, replicas that took the same export the same bytes
abbrev pub SameExport : Type 0
SameExport = (table : Table) (count other_count : ℕ) (steps other_steps : List Step) (replies other_replies : List Reply) (new other_new : ClusterParts) (replica other : ℕ) →
    Run (new_cluster table count) steps replies new → Run (new_cluster table other_count) other_steps other_replies other_new →
    IsSome (replica_numbered new replica) → IsSome (replica_numbered other_new other) →
    SameOperations (taken_of (taken_by table (new_taken count) steps replies) replica) (taken_of (taken_by table (new_taken other_count) other_steps other_replies) other) →
    (bytes : List ℕ) × (bytes ≡ canonical_file table (state_of (taken_of (taken_by table (new_taken count) steps replies) replica))) ×
    (reply_to new (Export replica) ≡ File bytes) × (reply_to other_new (Export other) ≡ File bytes)

-- what histories keep
pub record HistoryLaws : Type 0 where
  pub start : StartsEmpty
  pub cluster : GoesOnFrom
  pub refused : RefusedAddNothing
  pub messages : MessagesStay
  pub brought : SameMessagesAreEqual
  pub joined : RunsJoin
  pub replies : RepliesFollow
  pub reads : ReadsLeaveAll
  pub alike : SameAreAlike
  pub histories : SameInHistories
  pub canonical : ExportsAreCanonical
  pub exports : SameExport
