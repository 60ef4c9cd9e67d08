pub mod PartialAnswerBytes
pub mod PartialAnswerReading
