pub mod Account
pub mod Acquires
pub mod Entries
pub mod Pasts
pub mod Paths
pub mod Reaping
pub mod Replies
