pub mod GapExamples
pub mod Windows
pub mod Wrapped
