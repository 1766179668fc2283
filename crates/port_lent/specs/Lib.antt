pub mod Lent
pub mod Quickly
pub mod LentDevice
