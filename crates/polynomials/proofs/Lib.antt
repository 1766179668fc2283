pub mod Sums
pub mod Division
pub mod Multiplying
pub mod Quotients
pub mod BinarySums
pub mod BinaryNumbers
