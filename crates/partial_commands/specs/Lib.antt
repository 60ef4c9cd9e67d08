pub mod StorePartialAnswer
pub mod PartialAnswerWriting
pub mod PartialAnswerTurns
pub mod PartialCommandLaws
pub mod Coverage
pub mod Expecting
