-- The list of a replica's batches that tells their digests too.
use Rattle.std.specs.Prelude.{ℕ, List, ◌++◌, codes}
use Rattle.std.specs.List.{flat_map}
use Rattle.table_model.specs.State.{Batch}
use Rattle.table_model.specs.declared.names.BatchName.{BatchName}
use Rattle.answer_formats.specs.declared.format.ReportForm.{ReportForm}
use Rattle.answer_formats.specs.declared.format.ReportForm.TheVariants.{Text, Json}
use Rattle.replica_store.specs.Replica.{Replica, entries_of}
use Rattle.replica_reports.specs.Counts.{batch_line, counted, list_heading}
use Rattle.replica_reports.specs.Digests.{batch_digest}

-- what a line tells of a batch's digest, behind the counts
abbrev pub digest_part : ReportForm → List ℕ → List ℕ
digest_part Text digest = codes "," ++ digest
digest_part Json digest = codes ",\"digest\":\"" ++ (digest ++ codes "\"")

-- the line of a replica's batch with its digest, which does not depend on what is deleted
abbrev pub digest_line : ReportForm → Replica → BatchName × Batch → List ℕ
digest_line form r e = batch_line form (counted r.state.deleted e) (digest_part form (batch_digest r.schema e))

-- the list of the batches of a replica with their digests, a line each, in ascending order of name
abbrev pub digest_list : ReportForm → Replica → List ℕ
digest_list form r = list_heading form (codes "BATCH,ROWS,LIVE,DIGEST\n") ++ flat_map (digest_line form r) (entries_of r)
