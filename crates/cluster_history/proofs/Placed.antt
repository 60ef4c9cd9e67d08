-- What a call makes of one replica, it makes of the cluster at that replica's place.
use Rattle.std.specs.Prelude.{◌≡◌, ◌⊎◌, ℕ, zero, suc, ◌+◌, ◌<◌, List, [], ◌∷◌, ◌++◌, map, length, slice_get, slice_set, Some, None, option_map, Result, Ok, Err, IsOk}
use Rattle.std.proofs.Common.{refl, sym, ap, ◌∙◌, arith, inl, inr, add-one, get_or, subst}
use Rattle.std.proofs.lemmas.List.{set-get_or, map-set}
use Rattle.std.proofs.lemmas.Option.{slice_get_read, slice_get-map}
use Rattle.table_model.specs.Table.{Table}
use Rattle.table_model.specs.declared.refusal.Refusal.{Refusal}
use Rattle.table_model.specs.declared.refusal.Refusal.TheVariants.{Memory, NoSuchReplica}
use Rattle.replica_store.specs.Replica.{Replica}
use Rattle.replica_store.specs.Segments.{StoreForm}
use Rattle.cluster_history.specs.Cluster.{ClusterParts, replicas_in, empty_replica, new_replicas, with_store, placed, held_at, at_place, place_of, at_replica}
use Rattle.cluster_history.specs.Message.{Carried}
use Rattle.cluster_history.specs.declared.reply.Reply.{Reply}

-- one more new replica stands at the end
pub new_replicas_more : (table : Table) (first n : ℕ) → new_replicas table first (n + 1) ≡ new_replicas table first n ++ (empty_replica table (first + n) ∷ [])
new_replicas_more table first n = ap (new_replicas table first) (add-one n) ∙ more first n where
  more : (first n : ℕ) → new_replicas table first (suc n) ≡ new_replicas table first n ++ (empty_replica table (first + n) ∷ [])
  more first zero = let same : first ≡ first + 0 = omega arith in ap (λ k. empty_replica table k ∷ []) same
  more first (suc n) =
      let same : first + 1 + n ≡ first + suc n = omega arith in
      ap (λ rest. empty_replica table first ∷ rest) (more (first + 1) n ∙ ap (λ k. new_replicas table (first + 1) n ++ (empty_replica table k ∷ [])) same)

-- there is no such place
pub no_place : {X : Type 0} (reply : X → Reply) (c : ClusterParts) (replica : ℕ) (call : Replica → Result (X × Replica) Refusal)
    → None ≡ place_of (length c.stores) replica → at_replica reply c replica call ≡ Err NoSuchReplica
no_place reply c replica call none = ap (at_place reply c call) (sym none)

pub at_found : {X : Type 0} (reply : X → Reply) (c : ClusterParts) (replica at : ℕ) (call : Replica → Result (X × Replica) Refusal) (r : Replica)
    → Some at ≡ place_of (length c.stores) replica → slice_get c.stores at ≡ Some r → at_replica reply c replica call ≡ placed reply c at (call r)
at_found reply c replica at call r is held = ap (at_place reply c call) (sym is) ∙ ap (held_at reply c at call) held

-- the call was answered
pub acts_done : {X : Type 0} (reply : X → Reply) (c : ClusterParts) (replica at : ℕ) (call : Replica → Result (X × Replica) Refusal) (r new : Replica) (x : X)
    → Some at ≡ place_of (length c.stores) replica → slice_get c.stores at ≡ Some r → call r ≡ Ok (x, new) → at_replica reply c replica call ≡ Ok (reply x, with_store c at new)
acts_done reply c replica at call r new x is held done = at_found reply c replica at call r is held ∙ ap (placed reply c at) done

-- the call was refused
placed_ok : {X : Type 0} (reply : X → Reply) (c : ClusterParts) (at : ℕ) (made : Result (X × Replica) Refusal) → IsOk made → IsOk (placed reply c at made)
placed_ok reply c at (Ok done) ok = ok
placed_ok reply c at (Err e) ok = ok

pub acts_refused : {X : Type 0} (reply : X → Reply) (c : ClusterParts) (replica at : ℕ) (call : Replica → Result (X × Replica) Refusal) (r : Replica) (e : Refusal)
    → Some at ≡ place_of (length c.stores) replica → slice_get c.stores at ≡ Some r → (call r ≡ Err e) ⊎ ((e ≡ Memory) × IsOk (call r))
    → (at_replica reply c replica call ≡ Err e) ⊎ ((e ≡ Memory) × IsOk (at_replica reply c replica call))
acts_refused reply c replica at call r e is held (inl refused) = inl (at_found reply c replica at call r is held ∙ ap (placed reply c at) refused)
acts_refused {X = X} reply c replica at call r e is held (inr lack) =
    inr (lack.0, rw (at_found reply c replica at call r is held) (placed_ok reply c at (call r) lack.1))

-- what is seen of the store at a place
pub found_in : {X : Type 0} (seen : StoreForm → X) (stores : List StoreForm) (at : ℕ) (s : StoreForm) → at < length stores → s ≡ get_or stores at s → slice_get (map seen stores) at ≡ Some (seen s)
found_in seen stores at s below is = slice_get-map seen stores at ∙ ap (option_map seen) (slice_get_read stores (length stores) at s refl below is)

pub found : (stores : List StoreForm) (at : ℕ) (s : StoreForm) → at < length stores → s ≡ get_or stores at s → slice_get (replicas_in stores) at ≡ Some s.replica
found stores at s below is = found_in (λ (x : StoreForm). x.replica) stores at s below is

-- as many replicas as stores
pub length-replicas_in : (stores : List StoreForm) → length (replicas_in stores) ≡ length stores
length-replicas_in [] = refl
length-replicas_in (s ∷ stores) = ap suc (length-replicas_in stores)

-- the cluster of these parts
abbrev pub cluster_with : Table → List StoreForm → List Carried → ClusterParts
cluster_with schema stores messages = record { schema = schema; stores = replicas_in stores; messages = messages }

-- an answered call, seen in a cluster of known parts
pub call_done : {X : Type 0} (reply : X → Reply) (c : ClusterParts) (schema : Table) (stores : List StoreForm) (messages : List Carried) (replica at : ℕ) (call : Replica → Result (X × Replica) Refusal) (s new : StoreForm) (x : X)
    → cluster_with schema stores messages ≡ c → Some at ≡ place_of (length c.stores) replica → at < length c.stores → s ≡ get_or stores at s → call s.replica ≡ Ok (x, new.replica)
    → at_replica reply c replica call ≡ Ok (reply x, cluster_with schema (slice_set stores at new) messages)
call_done {X = X} reply c schema stores messages replica at call s new x view is below held done =
    let Q : ClusterParts → Type 0 = λ c. Some at ≡ place_of (length c.stores) replica → at < length c.stores → at_replica reply c replica call ≡ Ok (reply x, cluster_with schema (slice_set stores at new) messages) in
    subst Q view (λ is below. acts_done reply (cluster_with schema stores messages) replica at call s.replica new.replica x is (found stores at s (omega (arith, below, length-replicas_in stores)) held) done
    ∙ ap (λ (rs : List Replica). let made : Result (Reply × ClusterParts) Refusal = Ok (reply x, record { schema = schema; stores = rs; messages = messages }) in made) (sym (map-set (λ (y : StoreForm). y.replica) stores at new))) is below

pub same_store : (stores : List StoreForm) (at : ℕ) (s new : StoreForm) → s ≡ get_or stores at s → new ≡ s → slice_set stores at new ≡ stores
same_store stores at s new held same = ap (slice_set stores at) (same ∙ held) ∙ set-get_or stores at s

-- a place within has a store
pub store_there : (stores : List StoreForm) (at : ℕ) → at < length stores → (s : StoreForm) × (s ≡ get_or stores at s)
store_there [] at below = absurd (omega arith)
store_there (s ∷ stores) zero below = (s, refl)
store_there (s ∷ stores) (suc at) below = store_there stores at (omega arith)

-- a refused call leaves the cluster
pub call_refused : {X : Type 0} (reply : X → Reply) (c : ClusterParts) (schema : Table) (stores : List StoreForm) (messages : List Carried) (replica at : ℕ) (call : Replica → Result (X × Replica) Refusal) (s new : StoreForm) (e : Refusal)
    → cluster_with schema stores messages ≡ c → Some at ≡ place_of (length c.stores) replica → at < length c.stores → s ≡ get_or stores at s
    → new ≡ s → (new.replica ≡ s.replica) × ((call s.replica ≡ Err e) ⊎ ((e ≡ Memory) × IsOk (call s.replica)))
    → (cluster_with schema (slice_set stores at new) messages ≡ c) × ((at_replica reply c replica call ≡ Err e) ⊎ ((e ≡ Memory) × IsOk (at_replica reply c replica call)))
call_refused {X = X} reply c schema stores messages replica at call s new e view is below held same acts =
    let Q : ClusterParts → Type 0 = λ c. Some at ≡ place_of (length c.stores) replica → at < length c.stores → (at_replica reply c replica call ≡ Err e) ⊎ ((e ≡ Memory) × IsOk (at_replica reply c replica call)) in (
      ap (λ (ss : List StoreForm). cluster_with schema ss messages) (same_store stores at s new held same) ∙ view,
      subst Q view (λ is below. acts_refused reply (cluster_with schema stores messages) replica at call s.replica e is (found stores at s (omega (arith, below, length-replicas_in stores)) held) acts.1) is below,
    )
