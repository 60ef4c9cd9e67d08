-- The texts of the items so far.
use Rattle.std.proofs.Common.{◌≡◌, map, take}
use Rattle.std.specs.String.{string_bytes}
use Rattle.table_model.specs.Meaning.{item_text}
use Rattle.query_eval.proofs.answers.heading.heading.Given as goal

abbrev pub invariant-loop-item : goal.invariant-loop-item
invariant-loop-item l = map string_bytes l.texts.items ≡ map item_text (take l.item-index l.items)
