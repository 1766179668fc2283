pub mod Captures
pub mod ReadingBack
