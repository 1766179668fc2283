pub mod Steps
pub mod Runs
