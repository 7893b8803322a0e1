pub mod Registrations
pub mod EndCauses
pub mod Accounts
