pub mod FileHistory
pub mod FileReport
pub mod ReplyText
pub mod Script
pub mod ScriptRun
pub mod Told
