pub mod Rates
pub mod Roles
pub mod Resolving
