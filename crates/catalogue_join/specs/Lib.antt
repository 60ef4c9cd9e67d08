pub mod Held
pub mod LiveMask
pub mod RowRange
pub mod RowRangeShape
pub mod Run
pub mod RunShape
pub mod Span
