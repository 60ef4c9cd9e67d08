mod Advances
mod Begins
pub mod CutTexts
pub mod Cuts
pub mod Dumps
mod KnownFacts
pub mod LineFacts
pub mod Marks
pub mod Pieces
mod Ranges
pub mod RowFacts
mod RowTexts
mod Starts
mod Steps
mod Takings
mod WordFacts
pub mod Wholes
