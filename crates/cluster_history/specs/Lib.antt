pub mod ChangedStores
pub mod Cluster
pub mod Codings
pub mod History
pub mod Message
pub mod Rows
pub mod Run
pub mod Segments
