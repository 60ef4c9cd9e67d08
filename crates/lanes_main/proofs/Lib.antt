pub mod Feeds
pub mod FileHistories
pub mod FileReports
pub mod ScriptRuns
pub mod Tellings
pub mod WholeLines
