pub mod FolderLemmas
pub mod BelowLemmas
pub mod KeptLemmas
