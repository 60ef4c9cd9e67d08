-- Each name so far is an identifier, so the names that are left decide.
use Rattle.std.proofs.Common.{◌≡◌, map, drop}
use Rattle.std.specs.List.{list_all}
use Rattle.table_model.specs.Table.{is_named}
use Rattle.refusal_sentences.proofs.table_fault.unnamed.Given as goal

abbrev pub invariant-loop-name : goal.invariant-loop-name
invariant-loop-name l = list_all is_named (map (λ c. (c.0.now, c.1)) (drop l.name-index l.columns)) ≡ list_all is_named (map (λ c. (c.0.now, c.1)) l.columns)
