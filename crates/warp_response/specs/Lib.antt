pub mod Moment
pub mod Statuses
pub mod Head
pub mod Reply
pub mod Text
