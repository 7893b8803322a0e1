pub mod Books
pub mod Truth
pub mod EndCounts
