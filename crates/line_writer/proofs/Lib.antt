pub mod LentTail
pub mod SentBits
pub mod PagePattern
pub mod EdgeCount
pub mod WritingLoop
pub mod WrittenList
pub mod LineExamples
pub mod Damage
