pub mod NextPlace
