pub mod Field
pub mod FieldLaws
