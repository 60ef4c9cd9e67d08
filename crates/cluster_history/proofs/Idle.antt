-- What makes nothing takes no memory: an insert of a batch that is held already, a delete, a merge and a take that change nothing.
use Rattle.std.specs.Prelude.{◌≡◌, ◌≢◌, ◌⊎◌, ◌<◌, ◌++◌, ℕ, List, length, slice_get, slice_set, Some, Result, Ok, Err}
use Rattle.std.proofs.Common.{refl, sym, ap, ◌∙◌, arith, inl, inr, get_or, subst}
use Rattle.std.proofs.lemmas.List.{get_or-set_same}
use Rattle.std.proofs.lemmas.Option.{slice_get_within, get_or_from_slice_get}
use Rattle.table_model.specs.declared.refusal.Refusal.{Refusal}
use Rattle.table_model.specs.Table.{Table}
use Rattle.replica_store.specs.Replica.{Replica, merged}
use Rattle.replica_store.specs.Segments.{StoreForm}
use Rattle.cluster_history.specs.Message.{Carried}
use Rattle.replica_store.specs.declared.inserted.Inserted.{Inserted}
use Rattle.replica_store.specs.declared.inserted.Inserted.TheVariants.{New, Already}
use Rattle.replica_store.proofs.Limits.{same_Ok}
use Rattle.cluster_history.specs.Cluster.{ClusterParts, replicas_in, place_of, placed, at_replica, with_store, done_reply, stored, merged_in, merge_reply, merge_step}
use Rattle.cluster_history.specs.declared.reply.Reply.{Reply}
use Rattle.cluster_history.specs.declared.reply.Reply.TheVariants.{Done, Put}
use Rattle.cluster_history.proofs.Apart.{merged_is, in_front, at_head, merge_parts}
use Rattle.cluster_history.proofs.Placed.{at_found, cluster_with, found, length-replicas_in}

-- a refusal of what could have been done is for want of memory, where that may lack
pub refused_where : {A B C D E : Type 0} → E → A × (B ⊎ (C × D)) → A × (B ⊎ (C × (D × E)))
refused_where may acts = (acts.0, elim acts.1 [ inl refused ↦ inl refused | inr lack ↦ inr (lack.0, (lack.1, may)) ])

put_apart : Put New ≡ Put Already → ⊥
put_apart is = cc

placed_new : (c d : ClusterParts) (at : ℕ) (made : Result (Inserted × Replica) Refusal) → ((r : Replica) → made ≢ Ok (Already, r)) → placed Put c at made ≢ Ok (Put Already, d)
placed_new c d at (Ok (Already, r)) new is = new r refl
placed_new c d at (Ok (New, r)) new is = put_apart (ap (λ (p : Reply × ClusterParts). p.0) (same_Ok (Put New, with_store c at r) (Put Already, d) is))
placed_new c d at (Err e) new is = cc

put_new : (c : ClusterParts) (replica at : ℕ) (call : Replica → Result (Inserted × Replica) Refusal) (r : Replica)
    → Some at ≡ place_of (length c.stores) replica → slice_get c.stores at ≡ Some r → ((new : Replica) → call r ≢ Ok (Already, new)) → (d : ClusterParts) → at_replica Put c replica call ≢ Ok (Put Already, d)
put_new c replica at call r is held new d already = placed_new c d at (call r) new (sym (at_found Put c replica at call r is held) ∙ already)

-- what a replica doesn't answer with Already, the cluster doesn't answer so
pub call_new : (c : ClusterParts) (schema : Table) (stores : List StoreForm) (messages : List Carried) (replica at : ℕ) (call : Replica → Result (Inserted × Replica) Refusal) (s : StoreForm)
    → cluster_with schema stores messages ≡ c → Some at ≡ place_of (length c.stores) replica → at < length c.stores → s ≡ get_or stores at s → ((new : Replica) → call s.replica ≢ Ok (Already, new))
    → (d : ClusterParts) → at_replica Put c replica call ≢ Ok (Put Already, d)
call_new c schema stores messages replica at call s view is below held new =
    let Q : ClusterParts → Type 0 = λ c. Some at ≡ place_of (length c.stores) replica → at < length c.stores → (d : ClusterParts) → at_replica Put c replica call ≢ Ok (Put Already, d) in
    subst Q view (λ is below. put_new (cluster_with schema stores messages) replica at call s.replica is (found stores at s (omega (arith, below, length-replicas_in stores)) held) new) is below

-- what is written over an element and leaves the list is that element
written_same : {X : Type 0} (xs : List X) (i : ℕ) (old new : X) → slice_get xs i ≡ Some old → slice_set xs i new ≡ xs → new ≡ old
written_same xs i old new held same = sym (get_or-set_same xs i new new (slice_get_within xs i old held)) ∙ ap (λ ys. get_or ys i new) same ∙ get_or_from_slice_get xs i old new held

-- a replica that is there as before
abbrev as_it_was : Replica → Result (Unit {0} × Replica) Refusal
as_it_was r = Ok (tt, r)

placed_same : (c : ClusterParts) (at : ℕ) (r : Replica) (made : Result (Unit {0} × Replica) Refusal) → slice_get c.stores at ≡ Some r → placed done_reply c at made ≡ Ok (Done, c) → made ≡ as_it_was r
placed_same c at r (Ok done) held is = ap as_it_was (written_same c.stores at r done.1 held (ap (λ (p : Reply × ClusterParts). p.1.stores) (same_Ok (Done, with_store c at done.1) (Done, c) is)))
placed_same c at r (Err e) held is = cc

found_same : (c : ClusterParts) (replica at : ℕ) (call : Replica → Result (Unit {0} × Replica) Refusal) (r : Replica)
    → Some at ≡ place_of (length c.stores) replica → slice_get c.stores at ≡ Some r → at_replica done_reply c replica call ≡ Ok (Done, c) → call r ≡ as_it_was r
found_same c replica at call r is held same = placed_same c at r (call r) held (sym (at_found done_reply c replica at call r is held) ∙ same)

-- a call that leaves the cluster leaves its replica
pub call_same : (c : ClusterParts) (schema : Table) (stores : List StoreForm) (messages : List Carried) (replica at : ℕ) (call : Replica → Result (Unit {0} × Replica) Refusal) (s : StoreForm)
    → cluster_with schema stores messages ≡ c → Some at ≡ place_of (length c.stores) replica → at < length c.stores → s ≡ get_or stores at s
    → at_replica done_reply c replica call ≡ Ok (Done, c) → call s.replica ≡ Ok (tt, s.replica)
call_same c schema stores messages replica at call s view is below held =
    let Q : ClusterParts → Type 0 = λ c. Some at ≡ place_of (length c.stores) replica → at < length c.stores → at_replica done_reply c replica call ≡ Ok (Done, c) → call s.replica ≡ Ok (tt, s.replica) in
    subst Q view (λ is below. found_same (cluster_with schema stores messages) replica at call s.replica is (found stores at s (omega (arith, below, length-replicas_in stores)) held)) is below

stored_same : (stores : List Replica) (at : ℕ) (r : Replica) (made : Result (Unit {0} × Replica) Refusal) → slice_get stores at ≡ Some r → stored stores at made ≡ Ok (tt, stores) → made ≡ as_it_was r
stored_same stores at r (Ok done) held is = ap as_it_was (written_same stores at r done.1 held (ap (λ (p : Unit {0} × List Replica). p.1) (same_Ok (tt, slice_set stores at done.1) (tt, stores) is)))
stored_same stores at r (Err e) held is = cc

merged_same : (stores : List Replica) (at from : ℕ) (r other : Replica) → slice_get stores at ≡ Some r → slice_get stores from ≡ Some other → merged_in stores at from ≡ Ok (tt, stores) → merged r other ≡ Ok (tt, r)
merged_same stores at from r other held lent same = stored_same stores at r (merged r other) held (sym (merged_is stores at from r other held lent) ∙ same)

-- a merge that leaves the replicas leaves the one at its place, where that is in the front
pub front_same : (stores front back : List StoreForm) (place from : ℕ) (s other : StoreForm)
    → stores ≡ front ++ back → length front ≡ from → place < from → from < length stores → s ≡ get_or front place s → other ≡ get_or back 0 other
    → merged_in (replicas_in stores) place from ≡ Ok (tt, replicas_in stores) → merged s.replica other.replica ≡ Ok (tt, s.replica)
front_same stores front back place from s other parts is_len before within held lent =
    merged_same (replicas_in stores) place from s.replica other.replica (in_front stores front back place s parts (omega arith) held) (at_head stores front back from other parts is_len within lent)

-- or at the head of the back
pub back_same : (stores front back : List StoreForm) (place from : ℕ) (s other : StoreForm)
    → stores ≡ front ++ back → length front ≡ place → from < place → place < length stores → s ≡ get_or back 0 s → other ≡ get_or front from other
    → merged_in (replicas_in stores) place from ≡ Ok (tt, replicas_in stores) → merged s.replica other.replica ≡ Ok (tt, s.replica)
back_same stores front back place from s other parts is_len before within held lent =
    merged_same (replicas_in stores) place from s.replica other.replica (at_head stores front back place s parts is_len within held) (in_front stores front back from other parts (omega arith) lent)

reply_same : (c : ClusterParts) (made : Result (Unit {0} × List Replica) Refusal) → merge_reply c made ≡ Ok (Done, c) → made ≡ Ok (tt, c.stores)
reply_same c (Ok done) is = ap (λ (rs : List Replica). let same : Result (Unit {0} × List Replica) Refusal = Ok (tt, rs) in same) (ap (λ (p : Reply × ClusterParts). p.1.stores) (same_Ok (Done, record c { stores = done.1 }) (Done, c) is))
reply_same c (Err e) is = cc

-- a merge that leaves the cluster leaves its replicas
pub merge_same : (c : ClusterParts) (schema : Table) (stores slice : List StoreForm) (messages : List Carried) (replica other at from : ℕ)
    → cluster_with schema stores messages ≡ c → slice ≡ stores → Some at ≡ place_of (length c.stores) replica → Some from ≡ place_of (length c.stores) other → at ≢ from
    → merge_step c replica other ≡ Ok (Done, c) → merged_in (replicas_in slice) at from ≡ Ok (tt, replicas_in slice)
merge_same c schema stores slice messages replica other at from view is_slice is is_from apart same =
    let made = reply_same c (merged_in (replicas_in slice) at from) (sym (merge_parts c schema stores slice messages replica other at from view is_slice is is_from apart) ∙ same) in
    let kept : c.stores ≡ replicas_in slice = ap (λ (d : ClusterParts). d.stores) (sym view) ∙ ap replicas_in (sym is_slice) in
    made ∙ ap (λ (rs : List Replica). let left : Result (Unit {0} × List Replica) Refusal = Ok (tt, rs) in left) kept
