pub mod Picked
pub mod RowLemmas
pub mod Walking
pub mod BetweenSteps
pub mod BitSteps
pub mod NameSteps
pub mod CellSteps
pub mod ColumnSteps
