mod Looking
mod Handing
mod Answering
pub mod Covered
pub mod Worked
