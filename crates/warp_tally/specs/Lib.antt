pub mod Tallies
pub mod Accounts
pub mod OpenSet
pub mod RepresentsTally
pub mod Moves
