-- Two stores of one table as the one store that has what both have.
use Rattle.std.specs.Prelude.{◌≡◌, ◌+◌, ◌≤◌, IsOk}
use Rattle.std.specs.FinMap as map
use Rattle.table_model.specs.State.{Agree, union_of}
use Rattle.replica_store.specs.Replica.{with_join, merged, batch_limit}
use Rattle.replica_store.specs.Segments.{StoreForm}

-- the store that has what both have
abbrev pub joined_stores : StoreForm → StoreForm → StoreForm
joined_stores base recent = record { replica = with_join base.replica recent.replica; segments = union_of base.segments recent.segments }

-- two stores of one table and one own origin, which agree and have few enough batches
pub record AreJoined (base recent : StoreForm) : Type 0 where
  pub schema : recent.replica.schema ≡ base.replica.schema
  pub own : recent.replica.own ≡ base.replica.own
  pub agree : Agree base.replica.state recent.replica.state
  pub limit : map.len base.replica.state.batches + map.len recent.replica.state.batches ≤ batch_limit

-- a third store comes to the second of two: neither of them refuses it, and there are few enough batches
pub record CanTake (base recent other : StoreForm) : Type 0 where
  pub first : IsOk (merged base.replica other.replica)
  pub second : IsOk (merged recent.replica other.replica)
  pub limit : map.len base.replica.state.batches + map.len recent.replica.state.batches + map.len other.replica.state.batches ≤ batch_limit
