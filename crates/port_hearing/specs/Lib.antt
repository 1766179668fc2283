pub mod BasePages
pub mod NextPages
pub mod Edges
