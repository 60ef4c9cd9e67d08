-- The rest is of the other partial answer, and what is at its keys is as it was.
use Rattle.std.proofs.Common.{◌≡◌, ◌+◌, ℕ, List, Some, length}
use Rattle.std.specs.BTreeMap.{get}
use Rattle.std.specs.Global.{Vec}
use Rattle.table_model.specs.Group.{key_cmp}
use Rattle.table_model.specs.State.{Cells}
use Rattle.partial_answers.specs.Groups.{tallies_at}
use Rattle.partial_answers.specs.Kinds.{AllKeep}
use Rattle.partial_answers.specs.PartialAnswer.{either}
use Rattle.partial_answers.specs.declared.kept.Kept.{Kept}
use Rattle.partial_answers.proofs.groups.groups_of_both.Given as goal

abbrev pub invariant-loop-count : goal.invariant-loop-count
invariant-loop-count l = record {
  left : length l.rest.entries + l.count ≡ length l.fn.other.entries;
  same : (k : Cells) → either (tallies_at l.all k) (tallies_at l.rest k) ≡ either (tallies_at l.fn.one k) (tallies_at l.fn.other k);
  others : (k : Cells) (v : Vec Kept) → get key_cmp l.rest k ≡ Some v → get key_cmp l.fn.other k ≡ Some v;
  mine : (k : Cells) (v : Vec Kept) → get key_cmp l.rest k ≡ Some v → get key_cmp l.all k ≡ get key_cmp l.fn.one k;
  kinds : (kinds : List ℕ) → AllKeep kinds l.fn.one → AllKeep kinds l.fn.other → AllKeep kinds l.all;
}
