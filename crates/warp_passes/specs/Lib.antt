pub mod Own
pub mod TallyCalls
pub mod CacheCalls
pub mod Passes
pub mod Cells
pub mod Levels
pub mod Rows
pub mod Laws
