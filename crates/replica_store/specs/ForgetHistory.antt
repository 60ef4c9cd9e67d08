-- Histories in which replicas also forget: whatever was forgotten at whatever times, the same inserts and deletes leave the same
-- live rows, and the same state once it is forgotten.
use Rattle.std.specs.Prelude.{◌≡◌, ℕ, ◌<◌, ◌≤◌, Bool, not, List, [], ◌++◌, length, filter, map as each, Some, IsTrue}
use Rattle.std.specs.FinMap as map
use Rattle.std.specs.FinSet as set
use Rattle.table_model.specs.Name.{name_cmp, row_name_cmp}
use Rattle.table_model.specs.State.{State, Batch, empty_state, join, live_rows}
use Rattle.table_model.specs.Query.{QueryShape}
use Rattle.table_model.specs.Table.{Table, row_limit}
use Rattle.table_model.specs.Meaning.{answer_of}
use Rattle.table_model.specs.Operation.{Operation, Insert, Among, AreAgreeing, SameOperations, state_of}
use Rattle.table_model.specs.declared.names.BatchName.{BatchName}
use Rattle.replica_store.specs.Forgotten.{has_live_row, forgotten, IsRestOf}

-- what a summary does not list of a state: the batches whose names aren't listed, and all deletions
unfoldable pub left_out : set.FinSet name_cmp → State → State
left_out names s = record { batches = map.retain_keys s.batches (λ name. not (set.contains names name)); deleted = s.deleted }

-- the names of the batches of which every row is deleted
unfoldable pub spent_names : State → set.FinSet name_cmp
spent_names s = set.from_list (each (λ (e : BatchName × Batch). e.0) (filter (λ (e : BatchName × Batch). not (has_live_row s.deleted e)) (map.entries s.batches)))

-- every row that a batch of this name may have is deleted
abbrev pub IsSealed : set.FinSet row_name_cmp → BatchName → Type 0
IsSealed deleted name = (n : ℕ) → n < row_limit → IsTrue (set.contains deleted (record { batch = name; ordinal = n }))

-- Forgetting and offers: what a replica forgets is what it offers to a summary that lists the batches of which every row is deleted;
-- and a summary may list the name of a batch that isn't held where every row that it may have is deleted: what the offer then leaves
-- out has no live row.
pub record ForgetOfferLaws : Type 0 where
  pub offer : (s : State) → left_out (spent_names s) s ≡ forgotten s
  pub sealed_names : (s t : State) (names : set.FinSet name_cmp) → ((name : BatchName) → IsTrue (set.contains names name) → IsSealed s.deleted name) →
      ((name : BatchName) (rows : Batch) → map.get t.batches name ≡ Some rows → length rows ≤ row_limit) → IsRestOf (join s (left_out names t)) (join s t)

-- How a replica's state came about: it is new; it took inserts and deletes; it forgot; it merged with another replica; or it took an
-- offer that another replica made for a summary of these names, however late.
pub data History : Type 0 where
  New : History
  Takes : History → List Operation → History
  Forgets : History → History
  Merges : History → History → History
  Pulls : History → set.FinSet name_cmp → History → History

-- all that it took, itself or by others; a forget adds nothing
abbrev pub taken : History → List Operation
taken New = []
taken (Takes h ops) = taken h ++ ops
taken (Forgets h) = taken h
taken (Merges h g) = taken h ++ taken g
taken (Pulls h names g) = taken h ++ taken g

-- the state that it has
abbrev pub state_after : History → State
state_after New = empty_state
state_after (Takes h ops) = join (state_after h) (state_of ops)
state_after (Forgets h) = forgotten (state_after h)
state_after (Merges h g) = join (state_after h) (state_after g)
state_after (Pulls h names g) = join (state_after h) (left_out names (state_after g))

-- the batch of each listed name was taken, and may have been forgotten since
abbrev pub TookListed : List Operation → set.FinSet name_cmp → Type 0
TookListed ops names = (name : BatchName) → IsTrue (set.contains names name) → (rows : Batch) × Among (Insert name rows) ops

-- each summary listed only names of batches that the replica had taken
abbrev pub IsAsked : History → Type 0
IsAsked New = Unit {0}
IsAsked (Takes h ops) = IsAsked h
IsAsked (Forgets h) = IsAsked h
IsAsked (Merges h g) = IsAsked h × IsAsked g
IsAsked (Pulls h names g) = IsAsked h × IsAsked g × TookListed (taken h) names

-- What a history leaves is what is left of the state of all that was taken; so those that took the same have the same live rows and
-- answers, by their meaning over what was taken, and the same state once each is forgotten.
pub record ForgetHistoryLaws : Type 0 where
  pub rest : (h : History) → AreAgreeing (taken h) → IsAsked h → IsRestOf (state_after h) (state_of (taken h))
  pub live : (h : History) → AreAgreeing (taken h) → IsAsked h → live_rows (state_after h) ≡ live_rows (state_of (taken h))
  pub same_rows : (h g : History) → AreAgreeing (taken h) → IsAsked h → IsAsked g → SameOperations (taken h) (taken g) → live_rows (state_after h) ≡ live_rows (state_after g)
  pub same_answers : (h g : History) (table : Table) (query : QueryShape) → AreAgreeing (taken h) → IsAsked h → IsAsked g → SameOperations (taken h) (taken g) → answer_of table query (state_after h) ≡ answer_of table query (state_after g)
  pub same_forgotten : (h g : History) → AreAgreeing (taken h) → IsAsked h → IsAsked g → SameOperations (taken h) (taken g) → forgotten (state_after h) ≡ forgotten (state_after g)
