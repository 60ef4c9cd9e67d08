pub mod AnswerTexts
pub mod TextFormats
