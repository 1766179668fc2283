pub mod Transitions
pub mod Writing
