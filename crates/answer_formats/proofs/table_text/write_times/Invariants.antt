use Rattle.std.proofs.Common.{◌≡◌, ◌++◌, replicate}
use Rattle.answer_formats.proofs.table_text.write_times.Given as goal

abbrev pub invariant-loop : goal.invariant-loop
invariant-loop l = l.out.items ≡ l.initial.out.items ++ replicate l.counter l.byte
