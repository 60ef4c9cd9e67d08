-- What a file holds, and the bytes of its summary.
use Rattle.std.specs.Prelude.{ℕ, List, Result, Ok}
use Rattle.table_model.specs.declared.refusal.Refusal.{Refusal}
use Rattle.replica_store.specs.Exchange.{summary_of}
use Rattle.replica_store.specs.Replica.{Replica}
use Rattle.column_file.specs.Files.{opened_from}
use Rattle.column_file.specs.SummaryBytes.{summary_bytes}

-- the replica that a file's bytes hold, or their first fault; whose own origin it has is no matter
abbrev pub held_in : List ℕ → Result Replica Refusal
held_in input = opened_from (record { 0 = 1 }) input

-- summary: the bytes of the summary of a replica
abbrev pub summarizing : Replica → Result (List ℕ) Refusal
summarizing r = Ok (summary_bytes (summary_of r))
