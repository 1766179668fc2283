pub mod Memory
pub mod Changes
pub mod Rounds
pub mod PlainRecords
