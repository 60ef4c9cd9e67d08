-- Sets of batch names: fronts, and the names of a set in order.
use Rattle.std.specs.Prelude.{◌≡◌, ℕ, ◌+◌, ◌≤◌, Bool, false, not, List, Some, slice_get, IsTrue}
use Rattle.std.specs.List.Sorted.{IsStrictlySortedBy}
use Rattle.std.specs.FinSet as set
use Rattle.table_model.specs.Name.{name_cmp}
use Rattle.table_model.specs.declared.names.Origin.{Origin}
use Rattle.table_model.specs.declared.names.BatchName.{BatchName}
use Rattle.catalogue_join.specs.Run.{name_at}

-- the number up to which all numbers of an origin are held, from 1 on
pub record IsFront (held : set.FinSet name_cmp) (origin : Origin) (front : ℕ) : Type 0 where
  pub all_before : (n : ℕ) → 1 ≤ n → n ≤ front → IsTrue (set.contains held (name_at origin n))
  pub next_lacks : set.contains held (name_at origin (front + 1)) ≡ false

-- the names of a set in strictly ascending order: each set has one such list
pub record IsListOf (names : List BatchName) (held : set.FinSet name_cmp) : Type 0 where
  pub ascending : IsStrictlySortedBy name_cmp names
  pub same : set.from_list names ≡ held

-- the name with this index, from 0 on, among those of a set in ascending order
pub record IsNameAt (held : set.FinSet name_cmp) (index : ℕ) (name : BatchName) : Type 0 where
  pub names : List BatchName
  pub listed : IsListOf names held
  pub here : slice_get names index ≡ Some name

-- whether a name is not in a set
abbrev pub lacks : set.FinSet name_cmp → BatchName → Bool
lacks held name = not (set.contains held name)
