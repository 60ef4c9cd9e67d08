-- Two places of a list that is split between them: a write at the one leaves the other.
use Rattle.std.specs.Prelude.{◌≡◌, ◌≢◌, ◌⊎◌, ℕ, ◌+◌, ◌-◌, ◌<◌, Bool, true, false, cond, ◌==◌, List, [], ◌++◌, length, take, drop, slice_get, slice_set, Option, Some, None, Result, Ok, Err, IsOk, OnErr}
use Rattle.std.proofs.Common.{refl, sym, ap, subst, ◌∙◌, arith, inl, inr, get_or}
use Rattle.std.proofs.Math.Seq.{take-append_seam}
use Rattle.std.proofs.lemmas.Bool.Decides.{nat_tests}
use Rattle.std.proofs.lemmas.List.{set-get_or, set-append_left, set-append_right, get_or_append_left, get_or-append_right, length-append, drop_all, map-append, map-set, get_or-map}
use Rattle.std.proofs.lemmas.Option.{slice_get_read, get_or_from_slice_get}
use Rattle.table_model.specs.Table.{Table}
use Rattle.table_model.specs.Outcome.{Acts}
use Rattle.table_model.specs.declared.refusal.Refusal.{Refusal}
use Rattle.table_model.specs.declared.refusal.Refusal.TheVariants.{Memory, NoSuchReplica}
use Rattle.replica_store.specs.Replica.{Replica, merged}
use Rattle.replica_store.specs.Segments.{StoreForm}
use Rattle.cluster_history.specs.Cluster.{ClusterParts, replicas_in, place_of, stored, merged_pair, merged_in, merge_reply, merge_places, merge_step}
use Rattle.cluster_history.specs.Message.{Carried}
use Rattle.cluster_history.specs.declared.reply.Reply.{Reply}
use Rattle.cluster_history.specs.declared.reply.Reply.TheVariants.{Done}
use Rattle.cluster_history.proofs.Placed.{cluster_with, same_store, length-replicas_in}

abbrev unit : Bool → Unit {0}
unit changed = tt

-- a merge of the replicas at two places is that of the two
pub merged_is : (stores : List Replica) (place from : ℕ) (r other : Replica) → slice_get stores place ≡ Some r → slice_get stores from ≡ Some other → merged_in stores place from ≡ stored stores place (merged r other)
unfolding merged_in
merged_is stores place from r other at at_from = λ i. merged_pair stores place (at i) (at_from i)

stored_ok : (stores : List Replica) (place : ℕ) (made : Result (Unit {0} × Replica) Refusal) → IsOk made → IsOk (stored stores place made)
stored_ok stores place (Ok done) ok = ok
stored_ok stores place (Err e) ok = ok

same_place : (stores : List Replica) (place : ℕ) (r new : Replica) → slice_get stores place ≡ Some r → new ≡ r → slice_set stores place new ≡ stores
same_place stores place r new at same = ap (slice_set stores place) (same ∙ sym (get_or_from_slice_get stores place r r at)) ∙ set-get_or stores place r

-- what a merge made of the replica at a place
merged_at : (stores after : List Replica) (place from : ℕ) (r other new : Replica) (result : Result Bool Refusal)
    → slice_get stores place ≡ Some r → slice_get stores from ≡ Some other → after ≡ slice_set stores place new
    → Acts unit r result new (merged r other) → Acts unit stores result after (merged_in stores place from)
merged_at stores after place from r other new (Ok u) at at_from is acts =
    merged_is stores place from r other at at_from ∙ ap (stored stores place) acts ∙ ap (λ (s : List Replica). let made : Result (Unit {0} × List Replica) Refusal = Ok (tt, s) in made) (sym is)
merged_at stores after place from r other new (Err e) at at_from is acts = (
  is ∙ same_place stores place r new at acts.0,
  elim acts.1 [
    | inl refused ↦ inl (merged_is stores place from r other at at_from ∙ ap (stored stores place) refused)
    | inr lack ↦ inr (lack.0, rw (merged_is stores place from r other at at_from) (stored_ok stores place (merged r other) lack.1))
  ],
)

pub at_left : {X : Type 0} (front back : List X) (i : ℕ) (r : X) → i < length front → r ≡ get_or front i r → slice_get (front ++ back) i ≡ Some r
at_left front back i r below is =
    slice_get_read (front ++ back) (length (front ++ back)) i r refl (omega (arith, length-append front back)) (is ∙ sym (get_or_append_left front back r i below))

pub at_seam : {X : Type 0} (front back : List X) (i : ℕ) (r : X) → length front ≡ i → 0 < length back → r ≡ get_or back 0 r → slice_get (front ++ back) i ≡ Some r
at_seam front back i r is_len some is =
    let none : i - i ≡ 0 = omega arith in
    slice_get_read (front ++ back) (length (front ++ back)) i r refl (omega (arith, length-append front back)) (is ∙ ap (λ k. get_or back k r) (sym none) ∙ sym (get_or-append_right front back i i r is_len (omega arith)))

-- into the front, from the head of the back
merged_front : (stores front back : List Replica) (place from : ℕ) (r other new : Replica) (result : Result Bool Refusal)
    → stores ≡ front ++ back → length front ≡ from → place < from → from < length stores → r ≡ get_or front place r → other ≡ get_or back 0 other
    → Acts unit r result new (merged r other) → Acts unit stores result (slice_set front place new ++ back) (merged_in stores place from)
merged_front stores front back place from r other new result parts is_len before within held lent acts =
    let lengths : length stores ≡ length front + length back = ap length parts ∙ length-append front back in
    merged_at stores (slice_set front place new ++ back) place from r other new result
    (ap (λ s. slice_get s place) parts ∙ at_left front back place r (omega arith) held)
    (ap (λ s. slice_get s from) parts ∙ at_seam front back from other is_len (omega arith) lent)
    (sym (set-append_left front back place new (omega arith)) ∙ ap (λ s. slice_set s place new) (sym parts))
    acts

-- into the head of the back, from the front
merged_back : (stores front back : List Replica) (place from : ℕ) (r other new : Replica) (result : Result Bool Refusal)
    → stores ≡ front ++ back → length front ≡ place → from < place → place < length stores → r ≡ get_or back 0 r → other ≡ get_or front from other
    → Acts unit r result new (merged r other) → Acts unit stores result (front ++ slice_set back 0 new) (merged_in stores place from)
merged_back stores front back place from r other new result parts is_len before within held lent acts =
    let lengths : length stores ≡ length front + length back = ap length parts ∙ length-append front back in
    let none : 0 ≡ place - place = omega arith in
    merged_at stores (front ++ slice_set back 0 new) place from r other new result
    (ap (λ s. slice_get s place) parts ∙ at_seam front back place r is_len (omega arith) held)
    (ap (λ s. slice_get s from) parts ∙ at_left front back from other (omega arith) lent)
    (ap (λ k. front ++ slice_set back k new) none ∙ sym (set-append_right front back place place new is_len (omega arith)) ∙ ap (λ s. slice_set s place new) (sym parts))
    acts

replica_at : (stores : List StoreForm) (i : ℕ) (s : StoreForm) → i < length stores → s ≡ get_or stores i s → s.replica ≡ get_or (replicas_in stores) i s.replica
replica_at stores i s below is = ap (λ (x : StoreForm). x.replica) is ∙ sym (get_or-map (λ (x : StoreForm). x.replica) stores i s s.replica below)

-- a store of the front is the replica at its place
pub in_front : (stores front back : List StoreForm) (i : ℕ) (s : StoreForm) → stores ≡ front ++ back → i < length front → s ≡ get_or front i s → slice_get (replicas_in stores) i ≡ Some s.replica
in_front stores front back i s parts below is =
    ap (λ rs. slice_get rs i) (ap replicas_in parts ∙ map-append (λ (x : StoreForm). x.replica) front back)
    ∙ at_left (replicas_in front) (replicas_in back) i s.replica (omega (arith, below, length-replicas_in front)) (replica_at front i s below is)

-- and the head of the back is that at the seam
pub at_head : (stores front back : List StoreForm) (i : ℕ) (s : StoreForm) → stores ≡ front ++ back → length front ≡ i → i < length stores → s ≡ get_or back 0 s → slice_get (replicas_in stores) i ≡ Some s.replica
at_head stores front back i s parts is_len within is =
    let lengths : length stores ≡ length front + length back = ap length parts ∙ length-append front back in
    ap (λ rs. slice_get rs i) (ap replicas_in parts ∙ map-append (λ (x : StoreForm). x.replica) front back)
    ∙ at_seam (replicas_in front) (replicas_in back) i s.replica (length-replicas_in front ∙ is_len) (omega (arith, length-replicas_in back)) (replica_at back 0 s (omega arith) is)

-- into the front, from the head of the back
pub stored_front : (stores front back : List StoreForm) (place from : ℕ) (s other new : StoreForm) (result : Result Bool Refusal)
    → stores ≡ front ++ back → length front ≡ from → place < from → from < length stores → s ≡ get_or front place s → other ≡ get_or back 0 other
    → Acts unit s.replica result new.replica (merged s.replica other.replica) → Acts unit (replicas_in stores) result (replicas_in (slice_set front place new ++ back)) (merged_in (replicas_in stores) place from)
stored_front stores front back place from s other new result parts is_len before within held lent acts =
    let lengths : length stores ≡ length front + length back = ap length parts ∙ length-append front back in
    let made : slice_set (replicas_in front) place new.replica ++ replicas_in back ≡ replicas_in (slice_set front place new ++ back) =
    ap (λ (rs : List Replica). rs ++ replicas_in back) (sym (map-set (λ (x : StoreForm). x.replica) front place new)) ∙ sym (map-append (λ (x : StoreForm). x.replica) (slice_set front place new) back) in
    subst (λ (rs : List Replica). Acts unit (replicas_in stores) result rs (merged_in (replicas_in stores) place from)) made
    (merged_front (replicas_in stores) (replicas_in front) (replicas_in back) place from s.replica other.replica new.replica result
    (ap replicas_in parts ∙ map-append (λ (x : StoreForm). x.replica) front back) (length-replicas_in front ∙ is_len) before (omega (arith, within, length-replicas_in stores))
    (replica_at front place s (omega arith) held) (replica_at back 0 other (omega arith) lent) acts)

-- into the head of the back, from the front
pub stored_back : (stores front back : List StoreForm) (place from : ℕ) (s other new : StoreForm) (result : Result Bool Refusal)
    → stores ≡ front ++ back → length front ≡ place → from < place → place < length stores → s ≡ get_or back 0 s → other ≡ get_or front from other
    → Acts unit s.replica result new.replica (merged s.replica other.replica) → Acts unit (replicas_in stores) result (replicas_in (front ++ slice_set back 0 new)) (merged_in (replicas_in stores) place from)
stored_back stores front back place from s other new result parts is_len before within held lent acts =
    let lengths : length stores ≡ length front + length back = ap length parts ∙ length-append front back in
    let made : replicas_in front ++ slice_set (replicas_in back) 0 new.replica ≡ replicas_in (front ++ slice_set back 0 new) =
    ap (λ (rs : List Replica). replicas_in front ++ rs) (sym (map-set (λ (x : StoreForm). x.replica) back 0 new)) ∙ sym (map-append (λ (x : StoreForm). x.replica) front (slice_set back 0 new)) in
    subst (λ (rs : List Replica). Acts unit (replicas_in stores) result rs (merged_in (replicas_in stores) place from)) made
    (merged_back (replicas_in stores) (replicas_in front) (replicas_in back) place from s.replica other.replica new.replica result
    (ap replicas_in parts ∙ map-append (λ (x : StoreForm). x.replica) front back) (length-replicas_in front ∙ is_len) before (omega (arith, within, length-replicas_in stores))
    (replica_at back 0 s (omega arith) held) (replica_at front from other (omega arith) lent) acts)

-- a merge into the front that is refused leaves the stores
pub front_left : (stores front back : List StoreForm) (place : ℕ) (s new : StoreForm) (result : Result Bool Refusal) → stores ≡ front ++ back → s ≡ get_or front place s → OnErr result (new ≡ s) → OnErr result (slice_set front place new ++ back ≡ stores)
front_left stores front back place s new (Ok u) parts held left = tt
front_left stores front back place s new (Err e) parts held left = ap (λ (ss : List StoreForm). ss ++ back) (same_store front place s new held left) ∙ sym parts

-- and so does one into the back
pub back_left : (stores front back : List StoreForm) (place : ℕ) (s new : StoreForm) (result : Result Bool Refusal) → stores ≡ front ++ back → s ≡ get_or back place s → OnErr result (new ≡ s) → OnErr result (front ++ slice_set back place new ≡ stores)
back_left stores front back place s new (Ok u) parts held left = tt
back_left stores front back place s new (Err e) parts held left = ap (λ (ss : List StoreForm). front ++ ss) (same_store back place s new held left) ∙ sym parts

-- a list that is written over one of the same length
pub refill : (n : ℕ) (xs ws : List StoreForm) → n ≡ length xs → length ws ≡ length xs → take n (ws ++ drop (length ws) xs) ≡ ws
refill n xs ws is same =
    (λ i. take ((is ∙ sym same) i) (ws ++ drop_all (length ws) xs (omega arith) i)) ∙ take-append_seam ws []

pub merge_no_first : (c : ClusterParts) (replica other : ℕ) → None ≡ place_of (length c.stores) replica → merge_step c replica other ≡ Err NoSuchReplica
unfolding merge_step
merge_no_first c replica other none = ap (λ o. merge_places c o (place_of (length c.stores) other)) (sym none)

merge_found : (c : ClusterParts) (replica other : ℕ) (at : ℕ) (from : Option ℕ) → Some at ≡ place_of (length c.stores) replica → from ≡ place_of (length c.stores) other → merge_step c replica other ≡ merge_places c (Some at) from
unfolding merge_step
merge_found c replica other at from is is_from = λ i. merge_places c (sym is i) (sym is_from i)

pub merge_no_second : (c : ClusterParts) (replica other at : ℕ) → Some at ≡ place_of (length c.stores) replica → None ≡ place_of (length c.stores) other → merge_step c replica other ≡ Err NoSuchReplica
merge_no_second c replica other at is none = merge_found c replica other at None is none

pub merge_itself : (c : ClusterParts) (replica other at from : ℕ) → Some at ≡ place_of (length c.stores) replica → Some from ≡ place_of (length c.stores) other → at ≡ from → merge_step c replica other ≡ Ok (Done, c)
merge_itself c replica other at from is is_from same =
    let test : (at == from) ≡ true = grind (arith, nat_tests) in
    merge_found c replica other at (Some from) is is_from ∙ ap (λ (t : Bool). cond t (Ok (Done, c)) (merge_reply c (merged_in c.stores at from))) test

merge_others : (c : ClusterParts) (replica other at from : ℕ) → Some at ≡ place_of (length c.stores) replica → Some from ≡ place_of (length c.stores) other → at ≢ from → merge_step c replica other ≡ merge_reply c (merged_in c.stores at from)
merge_others c replica other at from is is_from apart =
    let test : (at == from) ≡ false = grind (arith, nat_tests) in
    merge_found c replica other at (Some from) is is_from ∙ ap (λ (t : Bool). cond t (Ok (Done, c)) (merge_reply c (merged_in c.stores at from))) test

-- what a merge of two replicas makes of a cluster of known parts
pub merge_parts : (c : ClusterParts) (schema : Table) (stores slice : List StoreForm) (messages : List Carried) (replica other at from : ℕ)
    → cluster_with schema stores messages ≡ c → slice ≡ stores → Some at ≡ place_of (length c.stores) replica → Some from ≡ place_of (length c.stores) other → at ≢ from
    → merge_step c replica other ≡ merge_reply c (merged_in (replicas_in slice) at from)
merge_parts c schema stores slice messages replica other at from view is_slice is is_from apart =
    merge_others c replica other at from is is_from apart
    ∙ (λ i. merge_reply c (merged_in (ap (λ (d : ClusterParts). d.stores) (sym view) i) at from))
    ∙ ap (λ (s : List StoreForm). merge_reply c (merged_in (replicas_in s) at from)) (sym is_slice)

merge_reply_ok : (c : ClusterParts) (made : Result (Unit {0} × List Replica) Refusal) → IsOk made → IsOk (merge_reply c made)
merge_reply_ok c (Ok done) ok = ok
merge_reply_ok c (Err e) ok = ok

pub merge_done : (c : ClusterParts) (schema : Table) (stores slice new : List StoreForm) (messages : List Carried) (n replica other at from : ℕ) (u : Unit {0})
    → cluster_with schema stores messages ≡ c → slice ≡ stores → n ≡ length stores → length new ≡ length slice
    → Some at ≡ place_of (length c.stores) replica → Some from ≡ place_of (length c.stores) other → at ≢ from → merged_in (replicas_in slice) at from ≡ Ok (u, replicas_in new)
    → merge_step c replica other ≡ Ok (Done, cluster_with schema (take n (new ++ drop (length new) stores)) messages)
merge_done c schema stores slice new messages n replica other at from u view is_slice is_len same_len is is_from apart made =
    merge_parts c schema stores slice messages replica other at from view is_slice is is_from apart
    ∙ ap (merge_reply c) made
    ∙ ap (λ (d : ClusterParts). let made : Result (Reply × ClusterParts) Refusal = Ok (Done, cluster_with d.schema new d.messages) in made) (sym view)
    ∙ ap (λ (s : List StoreForm). let made : Result (Reply × ClusterParts) Refusal = Ok (Done, cluster_with schema s messages) in made) (sym (refill n stores new is_len (same_len ∙ ap length is_slice)))

pub merge_refused : (c : ClusterParts) (schema : Table) (stores slice new : List StoreForm) (messages : List Carried) (n replica other at from : ℕ) (e : Refusal)
    → cluster_with schema stores messages ≡ c → slice ≡ stores → n ≡ length stores → length new ≡ length slice
    → Some at ≡ place_of (length c.stores) replica → Some from ≡ place_of (length c.stores) other → at ≢ from
    → (replicas_in new ≡ replicas_in slice) × ((merged_in (replicas_in slice) at from ≡ Err e) ⊎ ((e ≡ Memory) × IsOk (merged_in (replicas_in slice) at from)))
    → (cluster_with schema (take n (new ++ drop (length new) stores)) messages ≡ c) × ((merge_step c replica other ≡ Err e) ⊎ ((e ≡ Memory) × IsOk (merge_step c replica other)))
merge_refused c schema stores slice new messages n replica other at from e view is_slice is_len same_len is is_from apart acts =
    let step = merge_parts c schema stores slice messages replica other at from view is_slice is is_from apart in (
      ap (λ (ss : List StoreForm). cluster_with schema ss messages) (refill n stores new is_len (same_len ∙ ap length is_slice))
          ∙ ap (λ (rs : List Replica). let made : ClusterParts = record { schema = schema; stores = rs; messages = messages } in made) (acts.0 ∙ ap replicas_in is_slice) ∙ view,
      elim acts.1 [
        | inl refused ↦ inl (step ∙ ap (merge_reply c) refused)
        | inr lack ↦ inr (lack.0, rw step (merge_reply_ok c (merged_in (replicas_in slice) at from) lack.1))
      ],
    )
