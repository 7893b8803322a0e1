pub mod Places
pub mod RouteLemmas
pub mod PlainLemmas
