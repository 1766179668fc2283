pub mod Clock
pub mod Modes
pub mod Gaps
