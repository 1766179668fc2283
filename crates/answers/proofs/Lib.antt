pub mod OneAnswer
pub mod PutAtStart
