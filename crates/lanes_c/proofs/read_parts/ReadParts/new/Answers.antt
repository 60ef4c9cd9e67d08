-- The first part is held.
use Rattle.std.specs.Prelude.{List, map, string_bytes}
use Rattle.std.specs.Global.{Global}
use Rattle.std.specs.declared.string.String.{String}
use Rattle.std.proofs.Common.{ap}
use Rattle.folder_protocol.specs.Note.{calls_of}
use Rattle.lanes_c.proofs.PartsFollowing.{first_read}
use Rattle.lanes_c.proofs.read_parts.ReadParts.new.Goals as goal

pub invariant_of-result : goal.invariant_of-result
invariant_of-result c =
    first_read c.in_ok-join.join c.args.name.now c.args.bytes.now _ _ _ _ c.read.ensures (ap calls_of c.new-calls.ensures) c.in_ok-join.ensures.opened c.in_ok-names.ensures
    (ap (λ (l : List (String Global)). map string_bytes l) c.new-2.ensures.items)
