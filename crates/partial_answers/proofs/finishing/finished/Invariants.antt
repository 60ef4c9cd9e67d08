-- The groups that were taken out are finished and have the shape, and those that are left come after them and were there.
use Rattle.std.proofs.Common.{◌≡◌, ◌⊎◌, ◌+◌, ◌++◌, Some, length}
use Rattle.std.specs.BTreeMap.{get}
use Rattle.std.specs.Global.{Vec}
use Rattle.table_model.specs.Group.{key_cmp}
use Rattle.table_model.specs.State.{Cells}
use Rattle.partial_answers.specs.Groups.{shown_entries}
use Rattle.partial_answers.specs.Shape.{IsOfShape}
use Rattle.partial_answers.specs.declared.kept.Kept.{Kept}
use Rattle.partial_answers.proofs.finishing.finished.Given as goal

abbrev pub invariant-loop : goal.invariant-loop
invariant-loop l = record {
  count : length l.groups.entries + l.counter ≡ length l.initial.groups.entries;
  value : l.all.items ++ shown_entries l.measures l.aggregates l.groups.entries ≡ shown_entries l.measures l.aggregates l.initial.groups.entries;
  left : (k : Cells) (kept : Vec Kept) → get key_cmp l.groups k ≡ Some kept → get key_cmp l.initial.groups k ≡ Some kept;
  taken : (k : Cells) (kept : Vec Kept) → get key_cmp l.initial.groups k ≡ Some kept → IsOfShape l.columns l.measures k kept.items ⊎ (get key_cmp l.groups k ≡ Some kept);
}
