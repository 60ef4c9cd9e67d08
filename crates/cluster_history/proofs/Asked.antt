-- What a query makes of a cluster, and that a replica whose place was found is there.
use Rattle.std.specs.Prelude.{◌≡◌, ◌⊎◌, ◌<◌, ℕ, List, length, Some, None, IsSome, is_some, Result, Ok, Err, IsOk}
use Rattle.std.proofs.Common.{sym, ap, subst, ◌∙◌, inl, inr, arith, get_or}
use Rattle.table_model.specs.Answer.{AnswerParts}
use Rattle.table_model.specs.State.{State}
use Rattle.table_model.specs.Table.{Table}
use Rattle.table_model.specs.Outcome.{Gives}
use Rattle.table_model.specs.declared.refusal.Refusal.{Refusal}
use Rattle.table_model.specs.declared.refusal.Refusal.TheVariants.{Memory, NoSuchReplica}
use Rattle.replica_store.specs.Segments.{StoreForm}
use Rattle.column_file.specs.Files.{canonical_file}
use Rattle.store_view.specs.Asked.{query_answer}
use Rattle.cluster_history.specs.Cluster.{ClusterParts, place_of, numbered, told, asked_of, asked_place, asked_at, answer_reply, query_reply, query_step, export_reply, export_step}
use Rattle.cluster_history.specs.Message.{Carried}
use Rattle.cluster_history.specs.declared.reply.Reply.{Reply}
use Rattle.cluster_history.specs.declared.reply.Reply.TheVariants.{Answered, File}
use Rattle.cluster_history.proofs.Placed.{cluster_with, found, length-replicas_in}
use Rattle.cluster_history.proofs.Sent.{numbered_store}

-- a replica whose place was found is there
pub is_there : (c : ClusterParts) (schema : Table) (stores : List StoreForm) (messages : List Carried) (replica at : ℕ) (s : StoreForm)
    → cluster_with schema stores messages ≡ c → Some at ≡ place_of (length c.stores) replica → at < length c.stores → s ≡ get_or stores at s → IsSome (numbered c.stores replica)
is_there c schema stores messages replica at s view is below held = ap is_some (numbered_store c schema stores messages replica at s view is below held)

-- a query of a replica that isn't there is refused
pub query_nowhere : (c : ClusterParts) (replica : ℕ) (sql : List ℕ) → None ≡ place_of (length c.stores) replica → query_step c replica sql ≡ Err NoSuchReplica
unfolding query_step
query_nowhere c replica sql none = ap (asked_place c (query_reply sql)) (sym none)

asked_there : (c : ClusterParts) (schema : Table) (stores : List StoreForm) (messages : List Carried) (replica at : ℕ) (question : Table → State → Result Reply Refusal) (s : StoreForm)
    → cluster_with schema stores messages ≡ c → Some at ≡ place_of (length c.stores) replica → at < length c.stores → s ≡ get_or stores at s → asked_at c replica question ≡ told c (question s.replica.schema s.replica.state)
asked_there c schema stores messages replica at question s view is below held =
    let Q : ClusterParts → Type 0 = λ c. Some at ≡ place_of (length c.stores) replica → at < length c.stores → asked_at c replica question ≡ told c (question s.replica.schema s.replica.state) in
    subst Q view (λ is below.
    ap (asked_place (cluster_with schema stores messages) question) (sym is)
    ∙ ap (asked_of (cluster_with schema stores messages) question) (found stores at s (omega (arith, below, length-replicas_in stores)) held)) is below

query_there : (c : ClusterParts) (schema : Table) (stores : List StoreForm) (messages : List Carried) (replica at : ℕ) (sql : List ℕ) (s : StoreForm) (made : Result AnswerParts Refusal)
    → cluster_with schema stores messages ≡ c → Some at ≡ place_of (length c.stores) replica → at < length c.stores → s ≡ get_or stores at s
    → query_answer sql s.replica.schema s.replica.state ≡ made → query_step c replica sql ≡ told c (answer_reply made)
unfolding query_step
query_there c schema stores messages replica at sql s made view is below held said =
    asked_there c schema stores messages replica at (query_reply sql) s view is below held ∙ ap (λ (a : Result AnswerParts Refusal). told c (answer_reply a)) said

-- a query whose text was answered
pub query_done : (c : ClusterParts) (schema : Table) (stores : List StoreForm) (messages : List Carried) (replica at : ℕ) (sql : List ℕ) (s : StoreForm) (answer : AnswerParts)
    → cluster_with schema stores messages ≡ c → Some at ≡ place_of (length c.stores) replica → at < length c.stores → s ≡ get_or stores at s
    → query_answer sql s.replica.schema s.replica.state ≡ Ok answer → query_step c replica sql ≡ Ok (Answered answer, c)
query_done c schema stores messages replica at sql s answer = query_there c schema stores messages replica at sql s (Ok answer)

-- a query whose text was refused, or for which memory lacked at a replica that is there
pub query_refused : (c : ClusterParts) (schema : Table) (stores : List StoreForm) (messages : List Carried) (replica at : ℕ) (sql : List ℕ) (s : StoreForm) (e : Refusal)
    → cluster_with schema stores messages ≡ c → Some at ≡ place_of (length c.stores) replica → at < length c.stores → s ≡ get_or stores at s
    → (query_answer sql s.replica.schema s.replica.state ≡ Err e) ⊎ (e ≡ Memory) → (query_step c replica sql ≡ Err e) ⊎ ((e ≡ Memory) × IsSome (numbered c.stores replica))
query_refused c schema stores messages replica at sql s e view is below held (inl refused) = inl (query_there c schema stores messages replica at sql s (Err e) view is below held refused)
query_refused c schema stores messages replica at sql s e view is below held (inr lack) = inr (lack, is_there c schema stores messages replica at s view is below held)

-- an export of a replica that isn't there is refused
pub export_nowhere : (c : ClusterParts) (replica : ℕ) → None ≡ place_of (length c.stores) replica → export_step c replica ≡ Err NoSuchReplica
unfolding export_step
export_nowhere c replica none = ap (asked_place c export_reply) (sym none)

export_there : (c : ClusterParts) (schema : Table) (stores : List StoreForm) (messages : List Carried) (replica at : ℕ) (s : StoreForm)
    → cluster_with schema stores messages ≡ c → Some at ≡ place_of (length c.stores) replica → at < length c.stores → s ≡ get_or stores at s
    → export_step c replica ≡ Ok (File (canonical_file s.replica.schema s.replica.state), c)
unfolding export_step
export_there c schema stores messages replica at s view is below held = asked_there c schema stores messages replica at export_reply s view is below held

-- a replica that was exported
pub export_done : (c : ClusterParts) (schema : Table) (stores : List StoreForm) (messages : List Carried) (replica at : ℕ) (s : StoreForm) (file : List ℕ)
    → cluster_with schema stores messages ≡ c → Some at ≡ place_of (length c.stores) replica → at < length c.stores → s ≡ get_or stores at s
    → ◌≡◌ {A = Result (List ℕ) Refusal} (Ok (canonical_file s.replica.schema s.replica.state)) (Ok file) → export_step c replica ≡ Ok (File file, c)
export_done c schema stores messages replica at s file view is below held made =
    let same : canonical_file s.replica.schema s.replica.state ≡ file = cc made in
    export_there c schema stores messages replica at s view is below held ∙ ap (λ (bytes : List ℕ). let done : Result (Reply × ClusterParts) Refusal = Ok (File bytes, c) in done) same

-- an export for which memory lacked
pub export_refused : (c : ClusterParts) (schema : Table) (stores : List StoreForm) (messages : List Carried) (replica at : ℕ) (s : StoreForm) (e : Refusal)
    → cluster_with schema stores messages ≡ c → Some at ≡ place_of (length c.stores) replica → at < length c.stores → s ≡ get_or stores at s
    → Gives {X = List ℕ} {Y = List ℕ} (λ file. file) (Err e) (Ok (canonical_file s.replica.schema s.replica.state))
    → (export_step c replica ≡ Err e) ⊎ ((e ≡ Memory) × IsOk (export_step c replica))
export_refused c schema stores messages replica at s e view is below held (inl bad) = let absent : ◌≡◌ {A = Result (List ℕ) Refusal} (Ok (canonical_file s.replica.schema s.replica.state)) (Err e) = bad in cc
export_refused c schema stores messages replica at s e view is below held (inr lack) =
    inr (lack.0, rw (export_there c schema stores messages replica at s view is below held) lack.1)
