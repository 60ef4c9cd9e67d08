-- What a delete by a condition makes of a cluster, from what the search for its rows and their delete answered.
use Rattle.std.specs.Prelude.{◌≡◌, ◌⊎◌, ℕ, ◌<◌, Bool, true, cond, List, length, Some, None, IsTrue, Result, Ok, Err, IsOk}
use Rattle.std.specs.List.{All, list_all}
use Rattle.std.proofs.Common.{sym, ap, subst, ◌∙◌, arith, get_or, inl, inr}
use Rattle.std.proofs.lemmas.List.Sums.{list_all-from_AllPass}
use Rattle.table_model.specs.Name.{is_proper_name}
use Rattle.table_model.specs.Table.{Table}
use Rattle.table_model.specs.declared.names.RowName.{RowName}
use Rattle.table_model.specs.declared.refusal.Refusal.{Refusal}
use Rattle.table_model.specs.declared.refusal.Refusal.TheVariants.{Memory, BadName}
use Rattle.replica_store.specs.Replica.{Replica, with_deleted, names_fault, deleted_names, unless_fault}
use Rattle.replica_store.specs.Segments.{StoreForm}
use Rattle.replica_store.proofs.Limits.{ok_unless}
use Rattle.replica_store.proofs.MergeAnswers.{made_of}
use Rattle.store_view.specs.Asked.{condition_names}
use Rattle.cluster_history.specs.Cluster.{ClusterParts, place_of, placed, at_replica, then_deleted, deleting}
use Rattle.cluster_history.specs.Message.{Carried}
use Rattle.cluster_history.specs.declared.reply.Reply.TheVariants.{Deleted}
use Rattle.cluster_history.proofs.Placed.{at_found, cluster_with, found, length-replicas_in}

-- rows whose delete was answered are deleted
names_deleted : (r new : Replica) (names : List RowName) (u : Unit {0}) → deleted_names r names ≡ Ok (u, new) → with_deleted r names ≡ new
names_deleted r new names u e = made_of tt u (with_deleted r names) new (ok_unless (names_fault names) (Ok (tt, with_deleted r names)) (u, new) e).1

-- rows that were found and deleted
pub deleting_ok : (text : List ℕ) (r new : Replica) (names slice : List RowName) (count : ℕ) (u : Unit {0}) → condition_names text r.schema r.state ≡ Ok names → slice ≡ names → count ≡ length names
    → deleted_names r slice ≡ Ok (u, new) → deleting text r ≡ Ok (count, new)
deleting_ok text r new names slice count u finds same counted e =
    let deleted : with_deleted r names ≡ new = ap (with_deleted r) (sym same) ∙ names_deleted r new slice u e in
    ap (then_deleted r) finds ∙ (λ i. let made : Result (ℕ × Replica) Refusal = Ok (sym counted i, deleted i) in made)

-- a delete of rows that have proper names is refused for want of memory alone
pub only_memory : (r : Replica) (names slice : List RowName) (e : Refusal) → All (λ (row : RowName). IsTrue (is_proper_name row.batch)) names → slice ≡ names
    → (deleted_names r slice ≡ Err e) ⊎ ((e ≡ Memory) × IsOk (deleted_names r slice)) → e ≡ Memory
unfolding names_fault
only_memory r names slice e proper same (inr lack) = lack.0
only_memory r names slice e proper same (inl refused) =
    let all : list_all (λ (row : RowName). is_proper_name row.batch) names ≡ true = list_all-from_AllPass (λ (row : RowName). is_proper_name row.batch) names proper in
    let bad : ◌≡◌ {A = Result (Unit {0} × Replica) Refusal} (Ok (tt, with_deleted r names)) (Err e) =
    sym (ap (λ (b : Bool). unless_fault {X = Unit {0} × Replica} (cond b None (Some BadName)) (Ok (tt, with_deleted r names))) all) ∙ ap (deleted_names r) (sym same) ∙ refused in cc

-- a step whose condition was refused is refused
pub where_refused : (c : ClusterParts) (schema : Table) (stores : List StoreForm) (messages : List Carried) (replica at : ℕ) (text : List ℕ) (s : StoreForm) (e : Refusal)
    → cluster_with schema stores messages ≡ c → Some at ≡ place_of (length c.stores) replica → at < length c.stores → s ≡ get_or stores at s
    → condition_names text s.replica.schema s.replica.state ≡ Err e → at_replica Deleted c replica (deleting text) ≡ Err e
where_refused c schema stores messages replica at text s e view is below held refused =
    let Q : ClusterParts → Type 0 = λ c. Some at ≡ place_of (length c.stores) replica → at < length c.stores → at_replica Deleted c replica (deleting text) ≡ Err e in
    subst Q view (λ is below.
    at_found Deleted (cluster_with schema stores messages) replica at (deleting text) s.replica is (found stores at s (omega (arith, below, length-replicas_in stores)) held)
    ∙ ap (λ (x : Result (List RowName) Refusal). placed Deleted (cluster_with schema stores messages) at (then_deleted s.replica x)) refused) is below
