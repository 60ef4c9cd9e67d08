pub mod Runs
pub mod Dict
pub mod Keys
