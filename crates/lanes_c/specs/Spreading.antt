-- What the call gives that spreads a table: the files of its shares, one after another, and where each ends.
use Rattle.std.specs.Prelude.{◌≡◌, ℕ, ◌+◌, ◌≤◌, ◌<◌, List, length, map as each, Result, Ok, Err}
use Rattle.std.specs.FinMap as map
use Rattle.std.specs.List.{concat, range_with_len}
use Rattle.table_model.specs.declared.names.BatchName.{BatchName}
use Rattle.table_model.specs.declared.refusal.Refusal.TheVariants.{Memory}
use Rattle.column_file.specs.Files.{canonical_file}
use Rattle.replica_store.specs.Replica.{Replica}
use Rattle.table_spread.specs.Spread.{share_of}
use Rattle.lanes_c.specs.Queries.{ends_from}
use Rattle.lanes_c.specs.Rooms.{Given, filled}
use Rattle.lanes_c.specs.declared.fault.Fault.{Fault}
use Rattle.lanes_c.specs.declared.fault.Fault.TheVariants.{Refused}

-- the canonical files of the first shares of a replica, if these names begin a run each
abbrev pub share_files : List BatchName → Replica → ℕ → List (List ℕ)
share_files firsts r shares = each (λ index. canonical_file r.schema (share_of firsts index r.state)) (range_with_len 0 shares)

-- pieces one after another, and where each ends
abbrev pub AreJoined : List (List ℕ) → List ℕ → List ℕ → Type 0
AreJoined more bytes ends = (bytes ≡ concat more) × (ends ≡ ends_from 0 more)

-- Some names begin a run each, one fewer than there are shares if there are as many batches, and else not more; the bytes are the files
-- of the shares.
pub record AreShares (r : Replica) (shares : ℕ) (bytes ends : List ℕ) : Type 0 where
  pub firsts : List BatchName
  pub few : 1 ≤ shares → length firsts < shares
  pub full : 1 ≤ shares → shares ≤ map.len r.state.batches → length firsts + 1 ≡ shares
  pub joined : AreJoined (share_files firsts r shares) bytes ends

-- lanes_spread: as many shares as there is room for ends, which are put there; only memory may run out, and then the ends are as they were
abbrev pub Spreads : Given → Replica → List ℕ → List ℕ → Type 0
Spreads (Ok bytes) r was is = (ends : List ℕ) × AreShares r (length was) bytes ends × (is ≡ filled ends was)
Spreads (Err fault) r was is = (fault ≡ Refused Memory) × (is ≡ was)
