pub mod Extremes
pub mod Frame
pub mod Delta
