pub mod Ticks
pub mod Sending
