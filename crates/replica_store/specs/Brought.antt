-- What is brought to a replica that is only read: the batches whose names aren't held, and deletions.
use Rattle.std.specs.Prelude.{◌≡◌, ◌+◌, ◌≤◌, Some, None, refl}
use Rattle.std.specs.Coded.{Coded, code_by, coded×}
use Rattle.std.specs.FinMap as map
use Rattle.table_model.specs.Name.{name_cmp}
use Rattle.table_model.specs.State.{State, Batch}
use Rattle.table_model.specs.declared.names.BatchName.{BatchName}
use Rattle.replica_store.specs.Exchange.{unlisted_state}
use Rattle.replica_store.specs.Replica.{Replica, names_of, with_join, batch_limit}
use Rattle.replica_store.specs.Segments.{StoreForm, coded_store}

-- of a state, what a replica that is held has not: the batches whose names aren't held, and all deletions
abbrev pub unheld_state : Replica → State → State
unheld_state held s = unlisted_state (names_of held.state.batches) s

-- no name is held that has a batch among others
abbrev pub AreApart : map.FinMap name_cmp Batch → map.FinMap name_cmp Batch → Type 0
AreApart held others = (name : BatchName) (rows : Batch) → map.get held name ≡ Some rows → map.get others name ≡ None

-- A store is brought to one that is held: both are of one table, no batch of it is held, and there are few enough batches.
pub record IsBrought (held own : StoreForm) : Type 0 where
  pub schema : own.replica.schema ≡ held.replica.schema
  pub apart : AreApart held.replica.state.batches own.replica.state.batches
  pub limit : map.len held.replica.state.batches + map.len own.replica.state.batches ≤ batch_limit

-- a store that is held, and the one that is brought to it
pub record BroughtForm : Type 0 where
  pub held : StoreForm
  pub own : StoreForm

-- both stores by their parts
abbrev pub coded_brought : Coded BroughtForm
coded_brought = code_by (StoreForm × StoreForm) (coded× coded_store coded_store) (λ b. (b.held, b.own)) (λ p. record { held = p.0; own = p.1 }) (λ _. refl)

-- the replica that has what both have
abbrev pub both_of : BroughtForm → Replica
both_of b = with_join b.held.replica b.own.replica
