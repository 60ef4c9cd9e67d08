pub mod Spread
pub mod SpreadLaws
