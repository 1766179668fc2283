pub mod Messages
pub mod Telling
pub mod Readers
pub mod Covering
pub mod WorkedRuns
