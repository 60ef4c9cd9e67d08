-- A cluster as contracts see it: its parts, and with them the segments in which the batches of its replicas and messages lie, with their codings.
use Rattle.std.specs.Prelude.{ℕ, List, [], map, replicate, refl}
use Rattle.std.specs.Coded.{Coded, code_by, coded×, coded_list}
use Rattle.std.specs.FinMap as finite
use Rattle.table_model.specs.Name.{coded_name}
use Rattle.table_model.specs.Table.{Table}
use Rattle.segment_core.specs.SegmentCode.{coded_segment}
use Rattle.replica_store.specs.Segments.{Segments, StoreForm}
use Rattle.cluster_history.specs.Cluster.{ClusterParts, coded_parts, replicas_in}
use Rattle.cluster_history.specs.Message.{messages_in}
use Rattle.cluster_history.specs.declared.message.Message.{Message}
use Rattle.cluster_history.specs.declared.message.Message.TheVariants as kinds

-- the segments of the batches that each replica holds and that each message brings
pub record ClusterSegments : Type 0 where
  pub stores : List Segments
  pub messages : List Segments

-- a cluster's segments by their parts
abbrev pub coded_segments : Coded ClusterSegments
coded_segments =
    code_by (List Segments × List Segments) (coded× (coded_list (finite.code coded_name coded_segment)) (coded_list (finite.code coded_name coded_segment))) (λ c. (c.stores, c.messages)) (λ p. record { stores = p.0; messages = p.1 }) (λ _. refl)

-- a cluster: its schema, replicas and messages, and the segments of its batches, whose rows these have
pub record ClusterForm : Type 0 where
  pub parts : ClusterParts
  pub segments : ClusterSegments

-- a cluster by its parts and its segments
abbrev pub coded_cluster : Coded ClusterForm
coded_cluster = code_by (ClusterParts × ClusterSegments) (coded× coded_parts coded_segments) (λ c. (c.parts, c.segments)) (λ p. record { parts = p.0; segments = p.1 }) (λ _. refl)

-- the segments of each store
abbrev pub segments_in : List StoreForm → List Segments
segments_in stores = map (λ s. s.segments) stores

-- the segments of a number of new replicas, which hold nothing, where there is no message
abbrev pub new_segments : ℕ → ClusterSegments
new_segments count = record { stores = replicate count finite.empty; messages = [] }

-- the segments that a message brings; a summary brings none
abbrev pub brought_by : Message → Segments
brought_by (kinds.Summary summary) = finite.empty
brought_by (kinds.Offer offer) = offer.segments

-- the segments that each message brings
abbrev pub segments_brought : List Message → List Segments
segments_brought sent = map brought_by sent

-- the cluster of these stores and messages
abbrev pub cluster_form : Table → List StoreForm → List Message → ClusterForm
cluster_form schema stores sent = record {
  parts = record { schema = schema; stores = replicas_in stores; messages = messages_in sent };
  segments = record { stores = segments_in stores; messages = segments_brought sent };
}
