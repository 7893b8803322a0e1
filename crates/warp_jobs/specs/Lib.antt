pub mod Held
pub mod HeldListener
pub mod Listeners
pub mod Sessions
pub mod Tags
