-- One more store is one more new replica, which holds nothing.
use Rattle.std.proofs.Common.{◌≡◌, ◌∙◌, ◌+◌, ◌++◌, ◌∷◌, [], List, ap, sym, arith}
use Rattle.std.specs.FinMap as map
use Rattle.std.proofs.lemmas.List.{replicate-append-replicate, map-append}
use Rattle.replica_store.specs.Replica.{Replica}
use Rattle.replica_store.specs.Segments.{StoreForm}
use Rattle.cluster_history.specs.Cluster.{empty_replica, new_replicas, replicas_in}
use Rattle.cluster_history.specs.Segments.{segments_in}
use Rattle.cluster_history.proofs.Placed.{new_replicas_more}
use Rattle.cluster_history.proofs.cluster.new_stores.Goals as goal

pub loop-i-preserved : goal.loop-i-preserved
loop-i-preserved c =
    let made : empty_replica c.args.schema.now (c.loop-i.i + 1) ≡ c.in_ok-new_store.field-0.replica = cc c.in_ok-new_store.ensures.replica in
    let own : c.loop-i.i + 1 ≡ 1 + c.loop-i.i = omega arith in record {
      replicas =
          ap replicas_in c.in_ok-push.ensures.items
          ∙ map-append (λ (s : StoreForm). s.replica) c.loop-i.stores.items (c.in_ok-new_store.field-0 ∷ [])
          ∙ ap (λ (rs : List Replica). rs ++ (c.in_ok-new_store.field-0.replica ∷ [])) c.loop-i.invariant.replicas
          ∙ ap (λ (r : Replica). new_replicas c.args.schema.now 1 c.loop-i.i ++ (r ∷ [])) (sym made ∙ ap (empty_replica c.args.schema.now) own)
          ∙ sym (new_replicas_more c.args.schema.now 1 c.loop-i.i);
      segments =
          ap segments_in c.in_ok-push.ensures.items
          ∙ map-append (λ (s : StoreForm). s.segments) c.loop-i.stores.items (c.in_ok-new_store.field-0 ∷ [])
          ∙ (λ i. c.loop-i.invariant.segments i ++ (c.in_ok-new_store.ensures.segments i ∷ []))
          ∙ replicate-append-replicate c.loop-i.i 1 map.empty;
    }
