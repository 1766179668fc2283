pub mod RegisterNumbers
