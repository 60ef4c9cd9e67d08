pub mod Between
pub mod Extremes
pub mod Folds
pub mod Frames
pub mod Packed
pub mod Pairs
pub mod Walks
