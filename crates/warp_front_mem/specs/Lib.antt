pub mod MemFronts
