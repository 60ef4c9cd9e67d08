-- The share that was made is the one that is written.
use Rattle.std.proofs.Common.{subst}
use Rattle.column_file.specs.Files.{canonical_file, OpensTo}
use Rattle.replica_store.specs.Replica.{Replica}
use Rattle.table_spread.specs.Spread.{share_in}
use Rattle.table_spread.proofs.ShareForms.{same_replica}
use Rattle.table_spread.proofs.name_runs.NameRuns.share_bytes.Goals as goal

pub returns-clause-opens : goal.returns-clause-opens
returns-clause-opens c =
    let r = c.args.store.now.replica in
    subst (λ (s : Replica). OpensTo (canonical_file s.schema s.state) s.schema s.state)
    (same_replica c.in_ok-share.share.replica (share_in c.args.self.now c.args.index r) c.in_ok-share.ensures.value) c.in_ok-export_bytes.ensures.opens
