pub mod ColumnLaws
pub mod Cuts
pub mod Printable
pub mod RowLaws
pub mod Spellings
