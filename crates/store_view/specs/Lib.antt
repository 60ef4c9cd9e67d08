pub mod View
pub mod Asked
