pub mod RowRuns
pub mod Seen
pub mod VectorSeen
