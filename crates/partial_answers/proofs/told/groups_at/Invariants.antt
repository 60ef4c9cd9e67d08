-- The groups of the entries so far are made, and those that are left have the places that they had.
use Rattle.std.proofs.Common.{◌≡◌, ℕ, List, Some}
use Rattle.std.specs.List.Sorted.{IsStrictlySortedBy}
use Rattle.std.specs.Map.{keys_of}
use Rattle.table_model.specs.Group.{key_cmp}
use Rattle.table_model.specs.State.{Cells}
use Rattle.query_eval.specs.Entries.{place_in}
use Rattle.query_eval.specs.declared.tallies.tally.Tally.{Tally as Running}
use Rattle.partial_answers.specs.Evaluated.{told_places, AreWithin}
use Rattle.partial_answers.specs.Groups.{tallies_at}
use Rattle.partial_answers.specs.Kinds.{AllKeep, AreOfKinds}
use Rattle.partial_answers.proofs.PlacesTold.{first_told}
use Rattle.partial_answers.proofs.told.groups_at.Given as goal

abbrev pub invariant-loop-key : goal.invariant-loop-key
invariant-loop-key l = record {
  up : IsStrictlySortedBy key_cmp (keys_of l.key-iterator.rest.items);
  kept : (k : Cells) (place : ℕ) → place_in l.key-iterator.rest.items k ≡ Some place → place_in l.fn.entries.items k ≡ Some place;
  told : (t : Running) → AreWithin l.fn.entries.items l.tallies → (k : Cells) → first_told (tallies_at l.made k) (told_places l.tallies t (place_in l.key-iterator.rest.items k)) ≡ told_places l.tallies t (place_in l.fn.entries.items k);
  kinds : (kinds : List ℕ) → AreWithin l.fn.entries.items l.tallies → AreOfKinds kinds l.fn.entries.items l.tallies → AllKeep kinds l.made;
}
