pub mod Packed
pub mod Promises
pub mod Places
pub mod Keeps
pub mod Steps
pub mod Told
pub mod Passes
