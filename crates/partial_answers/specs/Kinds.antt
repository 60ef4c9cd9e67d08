-- What kinds of set functions groups keep.
use Rattle.std.specs.Prelude.{◌≡◌, ℕ, List, slice_index_or, map as each, Some}
use Rattle.std.specs.BTreeMap.{get}
use Rattle.std.specs.Global.{Vec}
use Rattle.table_model.specs.Group.{key_cmp}
use Rattle.table_model.specs.State.{Cells}
use Rattle.query_eval.specs.Entries.{Entries, place_in}
use Rattle.query_eval.specs.Tally.{kind_of}
use Rattle.query_eval.specs.declared.tallies.tally.Tally.{Tally as Running}
use Rattle.partial_answers.specs.Refusing.{KeptGroups, kept_kind}
use Rattle.partial_answers.specs.Shape.{kind_number}
use Rattle.partial_answers.specs.declared.kept.Kept.{Kept}

-- the kind of what the evaluator keeps of a set function, as a number
abbrev pub running_kind : Running → ℕ
running_kind t = kind_number (kind_of t)

-- the kinds of the tallies at a place, one of each column of tallies
abbrev pub kinds_at : List (Vec Running) → Running → ℕ → List ℕ
kinds_at columns t place = each (λ (column : Vec Running). running_kind (slice_index_or column.items place t)) columns

-- at each place of an index the tallies are of these kinds
abbrev pub AreOfKinds : List ℕ → Entries → List (Vec Running) → Type 0
AreOfKinds kinds index columns = (key : Cells) (place : ℕ) (t : Running) → place_in index key ≡ Some place → kinds_at columns t place ≡ kinds

-- these kinds are kept of each group
abbrev pub AllKeep : List ℕ → KeptGroups → Type 0
AllKeep kinds m = (k : Cells) (kept : Vec Kept) → get key_cmp m k ≡ Some kept → each kept_kind kept.items ≡ kinds
