-- What a recode leaves: each row, each other batch, and each other vector of its own batch.
use Rattle.std.specs.Prelude.{◌≡◌, ◌≢◌, ℕ, Some, Ok}
use Rattle.std.specs.FinMap as map
use Rattle.table_model.specs.Name.{name_cmp}
use Rattle.table_model.specs.declared.names.BatchName.{BatchName}
use Rattle.segment_core.specs.Segment.{SegmentForm, vector_at}
use Rattle.segment_core.specs.declared.coding.Coding.{Coding}
use Rattle.replica_store.specs.Replica.{Replica, recoded_rows}
use Rattle.replica_store.specs.Segments.{recoded_in}

-- two segments have the same rows, and the same vectors but for one place of one column
pub record DifferOnlyAt (column vector : ℕ) (s t : SegmentForm) : Type 0 where
  pub rows : t.rows ≡ s.rows
  pub columns : (other k : ℕ) → other ≢ column → vector_at t.forms other k ≡ vector_at s.forms other k
  pub vectors : (other : ℕ) → other ≢ vector → vector_at t.forms column other ≡ vector_at s.forms column other

-- two maps of segments have the same batches but for one vector of one batch
pub record LeavesOthers (name : BatchName) (column vector : ℕ) (old new : map.FinMap name_cmp SegmentForm) : Type 0 where
  pub batches : (other : BatchName) → other ≢ name → map.get new other ≡ map.get old other
  pub inside : (s t : SegmentForm) → map.get old name ≡ Some s → map.get new name ≡ Some t → DifferOnlyAt column vector s t

-- a recode that answers Ok leaves the replica as it is, and all other vectors as they are
pub record RecodeLaws : Type 0 where
  pub state : (r new : Replica) (name : BatchName) (column vector : ℕ) → recoded_rows r name column vector ≡ Ok (tt, new) → new ≡ r
  pub others : (old new : map.FinMap name_cmp SegmentForm) (name : BatchName) (column vector : ℕ) (coding : Coding) → recoded_in old name column vector coding ≡ Ok (tt, new) → LeavesOthers name column vector old new
