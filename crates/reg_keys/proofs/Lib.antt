pub mod RightReplies
pub mod EndsOnce
pub mod Removal
pub mod Drawing
pub mod InStripe
pub mod Openings
mod Sound
mod OneEvent
mod DueBefore
mod Reuse
mod RunsRegistered
mod Flags
mod Ascending
mod FlagsWait
mod Consistent
mod Refusing
mod Marking
mod Wakes
mod EndsRegistered
mod RunMarks
mod EndedOrWaits
mod ReportNumbers
mod OwnOpenings
mod AllStripes
