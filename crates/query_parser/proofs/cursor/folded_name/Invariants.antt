-- The letters so far are folded.
use Rattle.std.proofs.Common.{◌≡◌, take}
use Rattle.std.specs.String.{string_bytes}
use Rattle.table_model.specs.Identifier.{folded}
use Rattle.query_parser.proofs.cursor.folded_name.Given as goal

abbrev pub invariant-loop-byte : goal.invariant-loop-byte
invariant-loop-byte l = string_bytes l.text ≡ folded (take l.byte-index l.bytes)
