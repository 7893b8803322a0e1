pub mod OwnFlags
pub mod Waiting
