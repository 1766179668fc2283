pub mod Remainders
pub mod WordBits
pub mod Register
pub mod CheckTheorem
pub mod Agreement
pub mod Multiples
pub mod Strength
