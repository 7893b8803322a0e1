pub mod MemClockLemmas
pub mod MemFolderLemmas
pub mod ReadScriptLemmas
pub mod RetryLemmas
