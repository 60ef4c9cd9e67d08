-- Those before this one that go were kept.
use Rattle.std.proofs.Common.{◌≡◌, map, take, string_bytes}
use Rattle.std.specs.Prelude.{filter}
use Rattle.folder_commands.specs.Wanted.{goes}
use Rattle.folder_commands.proofs.wanted.going.Given as goal

abbrev pub invariant-loop-index : goal.invariant-loop-index
invariant-loop-index l = map string_bytes l.gone.items ≡ filter (goes (map string_bytes l.passed) l.new) (take l.index (map string_bytes l.names))
