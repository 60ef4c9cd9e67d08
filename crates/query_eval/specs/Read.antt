-- What contracts see of columns, and what a call that reads them leaves.
use Rattle.std.specs.Prelude.{◌≡◌, ℕ, ◌+◌, ◌≤◌}
use Rattle.table_model.specs.Passes.{raised}
use Rattle.table_model.specs.State.{State}
use Rattle.table_model.specs.Table.{Table}

-- a schema, a state, and how many passes were made
pub record Seen : Type 0 where
  pub table : Table
  pub state : State
  pub passes : ℕ

-- the table and the state are as they were
pub record IsSame (before after : Seen) : Type 0 where
  pub table : after.table ≡ before.table
  pub state : after.state ≡ before.state

-- and that number of passes more were made
pub record IsCounted (before after : Seen) (more : ℕ) : Type 0 where
  pub table : after.table ≡ before.table
  pub state : after.state ≡ before.state
  pub passes : after.passes ≡ raised more before.passes

-- and at most a given number passes more were made
pub record IsRead (before after : Seen) (most : ℕ) : Type 0 where
  pub table : after.table ≡ before.table
  pub state : after.state ≡ before.state
  pub passes : after.passes ≤ before.passes + most
