pub mod Entries
pub mod Joins
mod Keeps
mod Splits
mod Runs
mod Steps
mod Counting
