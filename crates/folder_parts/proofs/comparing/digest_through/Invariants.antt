-- What was read so far is what the hasher holds.
use Rattle.std.proofs.Common.{◌≡◌, ◌<◌, ◌≤◌, ℕ, List, length, vec_len}
use Rattle.std.specs.Io.KnownBytes.{Consumes}
use Rattle.sha2.specs.Hashers.{Holds512}
use Rattle.table_model.specs.declared.counted.TheConstants.{READ_LIMIT}
use Rattle.folder_parts.proofs.comparing.digest_through.Given as goal

abbrev pub invariant-loop-turn : goal.invariant-loop-turn
invariant-loop-turn g l = record {
  came : List ℕ;
  read : Consumes (g.R.Read.remaining l.initial.reader.0) (g.R.Read.remaining l.reader.0) came;
  holds : Holds512 l.hasher came;
  long : length came ≡ l.length;
  some : l._turn ≤ l.length;
  limit : l.length ≤ READ_LIMIT;
  room : 0 < vec_len l.buffer;
  most : vec_len l.buffer ≤ 65536;
  kept : l.reader.1 ≡ l.initial.reader.1;
}
