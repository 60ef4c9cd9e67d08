-- What a step that is answered makes of a cluster's segments, and so of the codings of what replicas hold and messages bring.
use Rattle.std.specs.Prelude.{◌≡◌, ◌⊎◌, ℕ, List, [], ◌∷◌, ◌++◌, length, slice_get, slice_set, Some, None, Ok}
use Rattle.std.specs.FinMap as finite
use Rattle.table_model.specs.State.{Batch, union_of}
use Rattle.table_model.specs.declared.names.BatchName.{BatchName}
use Rattle.segment_core.specs.Segment.{SegmentForm, canonical_segment}
use Rattle.replica_store.specs.Replica.{Replica}
use Rattle.replica_store.specs.Segments.{Segments, recoded_in}
use Rattle.replica_store.specs.Exchange.{SummaryForm, OfferForm, unlisted}
use Rattle.replica_store.specs.declared.inserted.Inserted.TheVariants.{New, Already}
use Rattle.column_file.specs.Files.{AreCanonicalOf, canonical_read}
use Rattle.cluster_history.specs.Cluster.{place_of, numbered}
use Rattle.cluster_history.specs.Message.{listing_in}
use Rattle.cluster_history.specs.Segments.{ClusterSegments, ClusterForm}
use Rattle.cluster_history.specs.declared.reply.Reply.{Reply}
use Rattle.cluster_history.specs.declared.reply.Reply.TheVariants.{Named, Put}
use Rattle.cluster_history.specs.declared.step.Step.{Step}
use Rattle.cluster_history.specs.declared.step.Step.TheVariants.{Append, Insert, Merge, Ask, Serve, Take, Recode, Open}

-- the segments of the replica with a number became these; those of the other replicas and of the messages stay
abbrev pub Become : ClusterSegments → ℕ → Segments → ClusterSegments → Type 0
Become old replica made new = (at : ℕ) × (place_of (length old.stores) replica ≡ Some at) × (new ≡ record old { stores = slice_set old.stores at made })

-- a batch of a new name came to a replica with its canonical vectors
abbrev pub IsPut : ClusterForm → ℕ → BatchName → Batch → ClusterSegments → Type 0
IsPut old replica name rows new =
    (r : Replica) × (held : Segments) × (numbered old.parts.stores replica ≡ Some r) × (numbered old.segments.stores replica ≡ Some held) × (finite.get held name ≡ None)
    × Become old.segments replica (finite.insert held name (canonical_segment r.schema rows)) new

-- batches came to a replica as they were coded: what it held keeps its codings
abbrev pub AreJoined : ClusterForm → ℕ → Segments → ClusterSegments → Type 0
AreJoined old replica came new = (held : Segments) × (numbered old.segments.stores replica ≡ Some held) × Become old.segments replica (union_of held came) new

-- one more message brings these segments; those of the other messages and of the replicas stay
abbrev pub IsSent : ClusterSegments → Segments → ClusterSegments → Type 0
IsSent old brought new = new ≡ record old { messages = old.messages ++ (brought ∷ []) }

-- What a step that is answered makes of the segments: a recode alone changes a coding, that of the vector that it names; a batch that
-- is appended, inserted or read from a file comes with canonical vectors, and one of a merge, an offer or a take as it is coded where it comes from.
abbrev pub SegmentsAfter : ClusterForm → Step → Reply → ClusterSegments → Type 0
SegmentsAfter old (Append replica rows) reply new = (name : BatchName) × (reply ≡ Named name) × IsPut old replica name rows new
SegmentsAfter old (Insert replica name rows) reply new = ((reply ≡ Put New) × IsPut old replica name rows new) ⊎ ((reply ≡ Put Already) × (new ≡ old.segments))
SegmentsAfter old (Merge replica other) reply new = (came : Segments) × (numbered old.segments.stores other ≡ Some came) × AreJoined old replica came new
SegmentsAfter old (Ask replica) reply new = IsSent old.segments finite.empty new
SegmentsAfter old (Serve replica message) reply new =
    (held : Segments) × (summary : SummaryForm) × (numbered old.segments.stores replica ≡ Some held) × (listing_in (numbered old.parts.messages message) ≡ Some summary) × IsSent old.segments (unlisted summary.names held) new
SegmentsAfter old (Take replica message) reply new = (came : Segments) × (numbered old.segments.messages message ≡ Some came) × AreJoined old replica came new
SegmentsAfter old (Recode replica name column vector coding) reply new =
    (held made : Segments) × (numbered old.segments.stores replica ≡ Some held) × (recoded_in held name column vector coding ≡ Ok (tt, made)) × Become old.segments replica made new
SegmentsAfter old (Open replica file) reply new =
    (held : OfferForm) × (came : Segments) × (canonical_read file ≡ Ok held) × AreCanonicalOf held.schema held.state.batches came × AreJoined old replica came new
SegmentsAfter old step reply new = new ≡ old.segments

-- what a list of segments has is there afterwards as it was, codings included
abbrev pub StayIn : List Segments → List Segments → Type 0
StayIn old new =
    (at : ℕ) (held : Segments) → slice_get old at ≡ Some held → (now : Segments) × (slice_get new at ≡ Some now) × ((name : BatchName) (s : SegmentForm) → finite.get held name ≡ Some s → finite.get now name ≡ Some s)

-- a step that is no recode
abbrev pub IsNoRecode : Step → Type 0
IsNoRecode (Recode replica name column vector coding) = ⊥
IsNoRecode step = Unit {0}

-- no step of a list is a recode
abbrev pub AreNoRecodes : List Step → Type 0
AreNoRecodes [] = Unit {0}
AreNoRecodes (step ∷ steps) = IsNoRecode step × AreNoRecodes steps

-- no step but a recode changes a coding of what a replica holds
abbrev pub HeldStay : Type 0
HeldStay = (old : ClusterForm) (step : Step) (reply : Reply) (new : ClusterSegments) → IsNoRecode step → SegmentsAfter old step reply new → StayIn old.segments.stores new.stores

-- no step changes a coding of what a message brings, once it is made
abbrev pub SentStay : Type 0
SentStay = (old : ClusterForm) (step : Step) (reply : Reply) (new : ClusterSegments) → SegmentsAfter old step reply new → StayIn old.segments.messages new.messages
