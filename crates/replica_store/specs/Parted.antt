-- Batches in two parts by an own origin: those of origins up to it, of which its own are the last, and those of greater origins.
use Rattle.std.specs.Prelude.{◌<◌, ◌≤◌, List, [], ◌∷◌, ◌++◌}
use Rattle.std.specs.FinSet as set
use Rattle.table_model.specs.Name.{name_cmp}
use Rattle.table_model.specs.declared.names.BatchName.{BatchName}
use Rattle.table_model.specs.declared.names.Origin.{Origin}
use Rattle.replica_store.specs.Replica.{AreKept}

-- each name of the entries has the property
abbrev pub Each : {X : Type 0} → (BatchName → Type 0) → List (BatchName × X) → Type 0
Each P [] = Unit {0}
Each P (e ∷ es) = P e.0 × Each P es

-- the name's origin isn't greater than the own one
abbrev pub IsUpTo : Origin → BatchName → Type 0
IsUpTo own name = name.origin.0 ≤ own.0

-- the name's origin is greater than the own one
abbrev pub IsPast : Origin → BatchName → Type 0
IsPast own name = own.0 < name.origin.0

-- the own origin parts the entries
pub record AreParted {X : Type 0} (own : Origin) (front back : List (BatchName × X)) : Type 0 where
  pub up_to : Each (IsUpTo own) front
  pub past : Each (IsPast own) back

-- entries in ascending order of name, with the set of their names, which the own origin parts
pub record AreKeptInParts {X : Type 0} (own : Origin) (front back : List (BatchName × X)) (held : set.FinSet name_cmp) : Type 0 where
  pub kept : AreKept (front ++ back) held
  pub parted : AreParted own front back
