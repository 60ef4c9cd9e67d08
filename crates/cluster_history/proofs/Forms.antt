-- A cluster by its stores and messages: what leaves one store leaves the whole, codings included.
use Rattle.std.specs.Prelude.{◌≡◌, ℕ, List, ◌++◌, length, take, drop, slice_set, Result, Err}
use Rattle.std.proofs.Common.{refl, sym, ap, ◌∙◌, inl, get_or}
use Rattle.table_model.specs.Table.{Table}
use Rattle.replica_store.specs.Segments.{StoreForm}
use Rattle.table_model.specs.declared.refusal.Refusal.{Refusal}
use Rattle.table_model.specs.declared.refusal.Refusal.TheVariants.{NoSuchReplica}
use Rattle.cluster_history.specs.Cluster.{ClusterParts, step_of}
use Rattle.cluster_history.specs.Run.{ActsOn}
use Rattle.cluster_history.specs.Segments.{ClusterForm, cluster_form}
use Rattle.cluster_history.specs.declared.message.Message.{Message}
use Rattle.cluster_history.specs.declared.reply.Reply.{Reply}
use Rattle.cluster_history.proofs.Apart.{refill}
use Rattle.cluster_history.proofs.Placed.{same_store}
use Rattle.cluster_history.specs.declared.step.Step.{Step}

-- clusters that are the same have the same parts
pub parts_same : {c d : ClusterForm} → c ≡ d → c.parts ≡ d.parts
parts_same same = ap (λ (c : ClusterForm). c.parts) same

-- a call that left its store left the cluster
pub store_left : (c : ClusterForm) (schema : Table) (stores : List StoreForm) (sent : List Message) (at : ℕ) (s new : StoreForm)
    → cluster_form schema stores sent ≡ c → s ≡ get_or stores at s → new ≡ s → cluster_form schema (slice_set stores at new) sent ≡ c
store_left c schema stores sent at s new view held same = ap (λ (ss : List StoreForm). cluster_form schema ss sent) (same_store stores at s new held same) ∙ view

-- stores that were lent and came back as they were leave the cluster
pub stores_left : (c : ClusterForm) (schema : Table) (stores lent new : List StoreForm) (sent : List Message) (n : ℕ)
    → cluster_form schema stores sent ≡ c → lent ≡ stores → n ≡ length stores → new ≡ lent → cluster_form schema (take n (new ++ drop (length new) stores)) sent ≡ c
stores_left c schema stores lent new sent n view is_lent is_len same =
    let is : new ≡ stores = same ∙ is_lent in
    ap (λ (ss : List StoreForm). cluster_form schema ss sent) (refill n stores new is_len (ap length is) ∙ is) ∙ view

-- a step at a replica that isn't there is refused, and leaves the cluster
pub nowhere : (c : ClusterForm) (step : Step) (e : Refusal) → e ≡ NoSuchReplica → step_of c.parts step ≡ Err NoSuchReplica → ActsOn c step (Err e) c
nowhere c step e is refused = (refl, inl (refused ∙ ap (λ (x : Refusal). let made : Result (Reply × ClusterParts) Refusal = Err x in made) (sym is)))
