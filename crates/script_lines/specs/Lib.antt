pub mod Line
pub mod Reading
pub mod Spelled
pub mod TableWords
pub mod Verb
pub mod Word
