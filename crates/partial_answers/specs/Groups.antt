-- What the groups of a partial answer in the code have at some keys.
use Rattle.std.specs.Prelude.{Option, Some, None, List, map as each}
use Rattle.std.specs.FinMap as map
use Rattle.std.specs.BTreeMap.{BTreeMap, get}
use Rattle.std.specs.Global.{Vec}
use Rattle.table_model.specs.Group.{key_cmp}
use Rattle.table_model.specs.State.{Cells}
use Rattle.query_eval.specs.Finished.{GroupFields}
use Rattle.query_eval.specs.declared.tallies.aggregate.Aggregate.{Aggregate}
use Rattle.partial_answers.specs.PartialAnswer.{Tallies, PartialAnswer, field_at}
use Rattle.partial_answers.specs.Kept.{tallies_in}
use Rattle.partial_answers.specs.declared.kept.Kept.{Kept}

-- the tallies of a group, if there is one
abbrev pub tallies_of_some : Option (Vec Kept) → Option Tallies
tallies_of_some None = None
tallies_of_some (Some kept) = Some (tallies_in kept.items)

-- the tallies at a list of keys, if a group has it
abbrev pub tallies_at : BTreeMap Cells (Vec Kept) → Cells → Option Tallies
tallies_at m key = tallies_of_some (get key_cmp m key)

-- the groups as a partial answer
unfoldable pub partial_answer_in : BTreeMap Cells (Vec Kept) → PartialAnswer
partial_answer_in m = map.from_entries (each (λ (e : Cells × Vec Kept). (e.0, tallies_in e.1.items)) m.entries)

-- a group of the code when it is finished
abbrev pub shown_entry : List Aggregate → List Aggregate → Cells × Vec Kept → GroupFields
shown_entry measures aggregates e = record { key = e.0; fields = each (field_at measures (tallies_in e.1.items)) aggregates }

-- groups by their keys and fields: a field for each of the aggregates
abbrev pub shown_entries : List Aggregate → List Aggregate → List (Cells × Vec Kept) → List GroupFields
shown_entries measures aggregates entries = each (shown_entry measures aggregates) entries
