pub mod Adding
pub mod Truths
