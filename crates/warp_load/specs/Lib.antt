pub mod Cutting
pub mod LoadFolder
pub mod LoadRanges
pub mod LoadScripts
pub mod LoadTotals
pub mod LoadWords
pub mod Requests
