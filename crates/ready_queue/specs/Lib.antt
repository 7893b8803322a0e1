pub mod History
pub mod Weights
pub mod Rule
pub mod Calls
pub mod Props
