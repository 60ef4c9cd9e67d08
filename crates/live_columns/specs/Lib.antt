pub mod Between
pub mod Bits
pub mod Chosen
pub mod Columns
pub mod Walk
pub mod Names
pub mod Choices
