use Rattle.std.proofs.Common.{◌≡◌, ◌<◌, ◌≤◌, length, vec_len}
use Rattle.std.specs.Io.KnownBytes.{Consumes}
use Rattle.table_model.specs.declared.counted.TheConstants.{READ_LIMIT}
use Rattle.column_file.proofs.input.read_through.Given as goal

abbrev pub invariant-loop-turn : goal.invariant-loop-turn
invariant-loop-turn g l = record {
  read : Consumes (g.R.Read.remaining l.initial.reader.0) (g.R.Read.remaining l.reader.0) l.input.items;
  some : l._turn ≤ length l.input.items;
  limit : length l.input.items ≤ READ_LIMIT;
  room : 0 < vec_len l.buffer;
  most : vec_len l.buffer ≤ 65536;
  kept : l.reader.1 ≡ l.initial.reader.1;
}
