pub mod Keys
pub mod Pasts
pub mod Sums
