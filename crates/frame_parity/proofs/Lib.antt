pub mod FromFn
pub mod Putting
pub mod RowLaws
pub mod RegisterLaws
pub mod Looking
pub mod Answering
pub mod Cutting
pub mod Worked
