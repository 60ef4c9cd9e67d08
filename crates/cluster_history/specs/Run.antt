-- Runs: steps that are answered one after another, each with its reply.
use Rattle.std.specs.Prelude.{◌≡◌, ◌≢◌, ◌⊎◌, List, [], ◌∷◌, IsSome, Result, Ok, Err, IsOk}
use Rattle.table_model.specs.declared.refusal.Refusal.{Refusal}
use Rattle.table_model.specs.declared.refusal.Refusal.TheVariants.{Memory}
use Rattle.replica_store.specs.declared.inserted.Inserted.TheVariants.{Already}
use Rattle.cluster_history.specs.Cluster.{ClusterParts, numbered, step_of}
use Rattle.cluster_history.specs.declared.reply.Reply.{Reply}
use Rattle.cluster_history.specs.declared.reply.Reply.TheVariants.{Done, Refused, Put}
use Rattle.cluster_history.specs.Codings.{SegmentsAfter, StayIn, AreNoRecodes, HeldStay, SentStay}
use Rattle.cluster_history.specs.Segments.{ClusterForm}
use Rattle.cluster_history.specs.declared.step.Step.{Step}
use Rattle.cluster_history.specs.declared.step.Step.TheVariants.{Insert, Delete, DeleteWhere, Merge, Take, Open, Query}

-- a refused step is answered by its refusal, and leaves the cluster
abbrev pub answered : Result (Reply × ClusterParts) Refusal → ClusterParts → Reply × ClusterParts
answered (Ok done) old = done
answered (Err e) old = (Refused e, old)

-- where a step may run out of memory: for what it makes, but not at an insert of a batch that is held already nor at a delete, a merge or a take that changes nothing, which make nothing; and as a file and the text of a query or a condition are taken in while they are read, there in the place of a refusal too, but not where the replica isn't there
abbrev pub MayLack : ClusterParts → Step → Result (Reply × ClusterParts) Refusal → Type 0
MayLack old (Open replica file) made = IsSome (numbered old.stores replica)
MayLack old (Query replica sql) made = IsSome (numbered old.stores replica)
MayLack old (DeleteWhere replica text) made = IsSome (numbered old.stores replica)
MayLack old (Insert replica name rows) made = IsOk made × ((c : ClusterParts) → made ≢ Ok (Put Already, c))
MayLack old (Delete replica first last) made = IsOk made × (made ≢ Ok (Done, old))
MayLack old (Merge replica other) made = IsOk made × (made ≢ Ok (Done, old))
MayLack old (Take replica message) made = IsOk made × (made ≢ Ok (Done, old))
MayLack old step made = IsOk made

-- a step is done, and that is what it makes, of the codings too; or it is refused, as it has to be or because memory ran out, and nothing changed, no coding either
abbrev pub ActsOn : ClusterForm → Step → Result Reply Refusal → ClusterForm → Type 0
ActsOn old step (Ok reply) new = (step_of old.parts step ≡ Ok (reply, new.parts)) × SegmentsAfter old step reply new.segments
ActsOn old step (Err e) new = (new ≡ old) × ((step_of old.parts step ≡ Err e) ⊎ ((e ≡ Memory) × MayLack old.parts step (step_of old.parts step)))

-- a step is done, and this is its reply; or the reply is its refusal, as it has to be or because memory ran out, and nothing changed, no coding either
abbrev pub CodedStepTo : ClusterForm → Step → Reply → ClusterForm → Type 0
CodedStepTo old step reply new = ActsOn old step (Ok reply) new ⊎ ((e : Refusal) × (reply ≡ Refused e) × ActsOn old step (Err e) new)

-- the reply and the cluster after a step are what the step makes; or memory ran out, and nothing changed
abbrev pub StepTo : ClusterParts → Step → Reply → ClusterParts → Type 0
StepTo old step reply new =
    (answered (step_of old step) old ≡ (reply, new)) ⊎ ((reply ≡ Refused Memory) × (new ≡ old) × MayLack old step (step_of old step))

-- each step has its reply, and they lead from one cluster to another, where To tells what a step and its reply lead to
abbrev pub Leads : {C : Type 0} → (C → Step → Reply → C → Type 0) → C → List Step → List Reply → C → Type 0
Leads To old [] [] new = new ≡ old
Leads To old [] (reply ∷ replies) new = ⊥
Leads To old (step ∷ steps) [] new = ⊥
Leads {C = C} To old (step ∷ steps) (reply ∷ replies) new = (mid : C) × To old step reply mid × Leads To mid steps replies new

-- a run: steps and their replies, codings apart
abbrev pub Run : ClusterParts → List Step → List Reply → ClusterParts → Type 0
Run = Leads StepTo

-- a run with the codings of what is held and sent
abbrev pub CodedRun : ClusterForm → List Step → List Reply → ClusterForm → Type 0
CodedRun = Leads CodedStepTo

-- over a run without a recode, with its refused steps and those for which memory ran out, what replicas held and what messages brought lies as it lay
abbrev pub RunsKeep : Type 0
RunsKeep = (old new : ClusterForm) (steps : List Step) (replies : List Reply) → AreNoRecodes steps → CodedRun old steps replies new →
    StayIn old.segments.stores new.segments.stores × StayIn old.segments.messages new.segments.messages

-- what becomes of codings
pub record CodingLaws : Type 0 where
  pub held : HeldStay
  pub sent : SentStay
  pub runs : RunsKeep
