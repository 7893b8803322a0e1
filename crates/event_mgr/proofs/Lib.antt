pub mod Bitmaps
pub mod KindLemmas
pub mod LeastMissing
pub mod ManagerLemmas
pub mod NumbersOut
pub mod Places
pub mod PlainNumbers
pub mod RowLemmas
pub mod Seen
pub mod StripeLemmas
pub mod BothWeights
pub mod Sums
mod Shared
