pub mod Words
pub mod Listing
pub mod Calls
pub mod Texts
