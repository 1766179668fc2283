pub mod AtThree
pub mod AloneT4
