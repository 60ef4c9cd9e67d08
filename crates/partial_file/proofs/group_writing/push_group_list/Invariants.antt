use Rattle.std.proofs.Common.{◌≡◌, ◌++◌}
use Rattle.partial_file.proofs.Spelled.{group_bytes}
use Rattle.partial_file.proofs.Written.{have_bytes}
use Rattle.partial_file.proofs.group_writing.push_group_list.Given as goal

abbrev pub invariant-loop-key : goal.invariant-loop-key
invariant-loop-key l = (l.bytes.items ++ group_bytes l.key-iterator ≡ l.initial.bytes.items ++ group_bytes l.all.entries) × (have_bytes l.all.entries ≡ have_bytes l.key-iterator)
