pub mod Word
pub mod Fields
pub mod NextPages
pub mod Thirds
