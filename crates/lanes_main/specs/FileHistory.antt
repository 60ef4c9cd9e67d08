-- Files and histories: a file that holds what a replica took is the one that the replica exports.
use Rattle.std.specs.Prelude.{◌≡◌, ℕ, List, IsSome}
use Rattle.table_model.specs.Operation.{Operation, SameOperations}
use Rattle.table_model.specs.Table.{Table}
use Rattle.replica_changes.specs.FileLaws.{Holds}
use Rattle.cluster_history.specs.Cluster.{ClusterParts, new_cluster}
use Rattle.cluster_history.specs.History.{new_taken, taken_of, taken_by, reply_to, replica_numbered}
use Rattle.cluster_history.specs.Run.{Run}
use Rattle.cluster_history.specs.declared.reply.Reply.{Reply}
use Rattle.cluster_history.specs.declared.reply.Reply.TheVariants.{File}
use Rattle.cluster_history.specs.declared.step.Step.{Step}
use Rattle.cluster_history.specs.declared.step.Step.TheVariants.{Export}

-- A file that commands made holds a set of operations. If a replica took the same in a history of that table, from a new cluster, in whatever order and however often, its export is that file, byte for byte.
abbrev pub FilesAreExports : Type 0
FilesAreExports =
    (bytes : List ℕ) (table : Table) (ops : List Operation) (count : ℕ) (steps : List Step) (replies : List Reply) (new : ClusterParts) (replica : ℕ) →
    Holds bytes table ops → Run (new_cluster table count) steps replies new → IsSome (replica_numbered new replica) →
    SameOperations ops (taken_of (taken_by table (new_taken count) steps replies) replica) → reply_to new (Export replica) ≡ File bytes
