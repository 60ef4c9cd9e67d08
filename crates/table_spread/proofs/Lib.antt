pub mod Shares
pub mod Deletions
pub mod ShareFacts
pub mod ApartShares
pub mod MergedShares
pub mod ShareForms
pub mod RunBounds
