pub mod ComputedTest
pub mod FieldLaws
