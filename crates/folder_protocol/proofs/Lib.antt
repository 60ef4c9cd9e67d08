pub mod Lines
pub mod ReadLines
pub mod Causing
pub mod Kept
pub mod TakeLines
pub mod Linking
pub mod Placed
pub mod Removals
mod Temporaries
