-- The digest of what a replica holds, and of each of its batches: short enough to be compared by eye, or kept in a log.
use Rattle.std.specs.Prelude.{ℕ, List, [], ◌∷◌, take}
use Rattle.std.specs.FinMap as map
use Rattle.std.specs.FinSet as set
use Rattle.hex.specs.Hex.{encode_lower}
use Rattle.sha2.specs.Sha512.{sha512}
use Rattle.table_model.specs.State.{Batch}
use Rattle.table_model.specs.Table.{Table}
use Rattle.table_model.specs.declared.names.BatchName.{BatchName}
use Rattle.column_file.specs.Files.{canonical_file}
use Rattle.replica_store.specs.Replica.{Replica}

-- the first 32 hexadecimal digits of a SHA-512, in lower case
abbrev pub first_digits : List ℕ → List ℕ
first_digits digest = encode_lower (take 16 digest)

-- the digest of what a replica holds: the first digits of the SHA-512 of its canonical file
unfoldable pub held_digest : Replica → List ℕ
held_digest r = first_digits (sha512 (canonical_file r.schema r.state))

-- the replica of a table that has one batch alone, with all its rows, and no deletions; whose replica it is does not matter
abbrev pub alone : Table → BatchName × Batch → Replica
alone table e = record { schema = table; own = record { 0 = 1 }; state = record { batches = map.from_sorted (e ∷ []); deleted = set.empty } }

-- the digest of a batch: that of the table that has this batch alone
abbrev pub batch_digest : Table → BatchName × Batch → List ℕ
batch_digest table e = held_digest (alone table e)
