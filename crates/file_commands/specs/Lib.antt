pub mod Finished
pub mod CrashLaws
pub mod HeldDeletes
pub mod Refused
pub mod Rewriting
pub mod Throughout
pub mod Homes
pub mod HomeLaws
