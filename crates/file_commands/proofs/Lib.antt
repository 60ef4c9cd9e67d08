pub mod CrashProofs
pub mod HeldDeletes
pub mod Whys
pub mod Throughout
pub mod Homes
pub mod Rewrites
