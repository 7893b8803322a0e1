pub mod CutLemmas
pub mod CutterLemmas
pub mod LoadLists
pub mod RangeLemmas
pub mod ReadLemmas
pub mod ReplyLemmas
pub mod TotalLemmas
