pub mod Endings
pub mod Pattern
pub mod Reading
