pub mod Polynomials
pub mod Binary
