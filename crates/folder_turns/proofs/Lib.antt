pub mod Ends
pub mod Finding
pub mod Runs
pub mod Steps
pub mod Straying
pub mod Guards
pub mod NextCalls
