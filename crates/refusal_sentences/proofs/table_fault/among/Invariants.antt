-- None of the names so far is the same, so the names that are left decide.
use Rattle.std.proofs.Common.{◌≡◌, drop}
use Rattle.std.specs.List.{list_any}
use Rattle.table_model.specs.Table.{has_name}
use Rattle.refusal_sentences.proofs.table_fault.among.Given as goal

abbrev pub invariant-loop-other : goal.invariant-loop-other
invariant-loop-other l = list_any (λ c. has_name l.name c.0.now) (drop l.other-index l.columns) ≡ list_any (λ c. has_name l.name c.0.now) l.columns
