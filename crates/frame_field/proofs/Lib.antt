pub mod ExclusiveOr
pub mod TimesAlpha
pub mod PowersOfAlpha
pub mod TimesBits
pub mod Products
pub mod FieldProved
