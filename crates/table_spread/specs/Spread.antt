-- A table that is spread over several: each batch goes to one share, and with it the deletions that name it.
use Rattle.std.specs.Prelude.{ℕ, suc, Bool, cond, ◌==◌, List, [], ◌∷◌, filter}
use Rattle.std.specs.Ordering.{is_lt}
use Rattle.std.specs.FinMap as map
use Rattle.std.specs.FinSet as set
use Rattle.table_model.specs.Name.{name_cmp, row_name_cmp}
use Rattle.table_model.specs.State.{State}
use Rattle.table_model.specs.declared.names.BatchName.{BatchName}
use Rattle.table_model.specs.declared.names.RowName.{RowName}
use Rattle.replica_store.specs.Replica.{Replica, names_of}

-- The run that a name is in, counted from 0: each of the given names begins a run, and the names below the first of them are run 0.
abbrev pub run_of : List BatchName → BatchName → ℕ
run_of [] name = 0
run_of (first ∷ firsts) name = cond (is_lt (name_cmp name first)) 0 (suc (run_of firsts name))

-- whether a name is in a run
abbrev pub is_in_run : List BatchName → ℕ → BatchName → Bool
is_in_run firsts index name = run_of firsts name == index

-- The share that a name goes to if some names are held: that of its run if it is one of them, and else the first.
abbrev pub share_at : List BatchName → set.FinSet name_cmp → BatchName → ℕ
share_at firsts held name = cond (set.contains held name) (run_of firsts name) 0

-- whether a name goes to a share
abbrev pub goes_to : List BatchName → set.FinSet name_cmp → ℕ → BatchName → Bool
goes_to firsts held index name = share_at firsts held name == index

-- the deletions that name some batches, also of rows that these don't have
unfoldable pub deletions_of : (BatchName → Bool) → set.FinSet row_name_cmp → set.FinSet row_name_cmp
deletions_of goes deleted = set.from_list (filter (λ (row : RowName). goes row.batch) (set.items deleted))

-- what of a state goes with some names: the batches of these names, and the deletions that name them
unfoldable pub of_names : (BatchName → Bool) → State → State
of_names goes s = record { batches = map.retain_keys s.batches goes; deleted = deletions_of goes s.deleted }

-- a share: what of a state goes with the names that go to it
abbrev pub share_of : List BatchName → ℕ → State → State
share_of firsts index s = of_names (goes_to firsts (names_of s.batches) index) s

-- a share of a replica, of the same schema and own origin
abbrev pub share_in : List BatchName → ℕ → Replica → Replica
share_in firsts index r = record { schema = r.schema; own = r.own; state = share_of firsts index r.state }
