pub mod Acquired
pub mod Calls
pub mod History
pub mod Idle
pub mod Laws
pub mod Represents
pub mod Shelf
pub mod Shared
