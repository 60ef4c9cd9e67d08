pub mod Joined
pub mod Wanted
pub mod ReadParts
pub mod Refusals
pub mod Relying
pub mod Replacing
pub mod Skims
pub mod Answered
