pub mod LimitsAndWords
pub mod ContentType
pub mod Target
pub mod Route
pub mod Walk
