pub mod Growing
pub mod Covering
