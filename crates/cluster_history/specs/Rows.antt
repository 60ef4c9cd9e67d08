-- The segments of a cluster have the rows of its parts: in a new cluster, after each step and after each run.
use Rattle.std.specs.Prelude.{◌≡◌, ℕ, List, map}
use Rattle.std.specs.FinMap as finite
use Rattle.table_model.specs.Name.{name_cmp}
use Rattle.table_model.specs.State.{Batch}
use Rattle.table_model.specs.Table.{Table}
use Rattle.replica_store.specs.Replica.{Replica}
use Rattle.replica_store.specs.Segments.{rows_in}
use Rattle.cluster_history.specs.Cluster.{new_cluster}
use Rattle.cluster_history.specs.Message.{Carried, Listing, Offering}
use Rattle.cluster_history.specs.Run.{CodedStepTo, CodedRun}
use Rattle.cluster_history.specs.Segments.{ClusterForm, new_segments}
use Rattle.cluster_history.specs.declared.reply.Reply.{Reply}
use Rattle.cluster_history.specs.declared.step.Step.{Step}

-- the batches that a replica holds
abbrev pub batches_held : Replica → finite.FinMap name_cmp Batch
batches_held r = r.state.batches

-- the batches that a message brings; a summary brings none
abbrev pub batches_carried : Carried → finite.FinMap name_cmp Batch
batches_carried (Listing summary) = finite.empty
batches_carried (Offering table state) = state.batches

-- the segments of a cluster have the rows of its parts: those of each replica are the batches that it holds, and those of each message the batches that it brings
pub record SegmentsHaveRows (c : ClusterForm) : Type 0 where
  pub held : map rows_in c.segments.stores ≡ map batches_held c.parts.stores
  pub sent : map rows_in c.segments.messages ≡ map batches_carried c.parts.messages

-- the segments of a new cluster have its rows
abbrev pub NewHaveRows : Type 0
NewHaveRows = (table : Table) (count : ℕ) → SegmentsHaveRows (record { parts = new_cluster table count; segments = new_segments count })

-- where the segments of a cluster have its rows, they have them after a step, whether it is done or refused
abbrev pub StepsKeepRows : Type 0
StepsKeepRows = (old new : ClusterForm) (step : Step) (reply : Reply) → SegmentsHaveRows old → CodedStepTo old step reply new → SegmentsHaveRows new

-- where the segments of a cluster have its rows, they have them after a run
abbrev pub RunsKeepRows : Type 0
RunsKeepRows = (old new : ClusterForm) (steps : List Step) (replies : List Reply) → SegmentsHaveRows old → CodedRun old steps replies new → SegmentsHaveRows new

-- the segments of a cluster have its rows from the first, and keep them
pub record RowLaws : Type 0 where
  pub start : NewHaveRows
  pub steps : StepsKeepRows
  pub runs : RunsKeepRows
