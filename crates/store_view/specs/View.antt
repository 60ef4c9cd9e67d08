-- A store as a query sees it, and a coded vector as a column's cells at the rows of a vector.
use Rattle.std.specs.Prelude.{◌≡◌, ℕ, ◌<◌, length, refl}
use Rattle.std.specs.Coded.{Coded, code_by, coded×, coded_ℕ}
use Rattle.table_model.specs.State.{State, coded_state}
use Rattle.table_model.specs.Table.{Table, coded_table}
use Rattle.segment_core.specs.CodedVector.{VectorForm, IsVector, vector_cell}
use Rattle.query_eval.specs.Vector.{Vector, cell_at}

-- a store's schema and state, and how many passes were made over the values of its vectors
pub record ViewForm : Type 0 where
  pub table : Table
  pub state : State
  pub passes : ℕ

-- a view by its parts
abbrev pub coded_view : Coded ViewForm
coded_view = code_by (Table × (State × ℕ)) (coded× coded_table (coded× coded_state coded_ℕ)) (λ v. (v.table, (v.state, v.passes))) (λ p. record { table = p.0; state = p.1.0; passes = p.1.1 }) (λ _. refl)

-- a coded vector covers the rows of a vector, and has its cells in a column
pub record HasCells (coded : VectorForm) (v : Vector) (column : ℕ) : Type 0 where
  pub form : IsVector coded
  pub covers : length v.rows ≡ coded.rows
  pub cells : (n : ℕ) → n < coded.rows → cell_at v column n ≡ vector_cell coded n
