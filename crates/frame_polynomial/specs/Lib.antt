pub mod Frame
pub mod FrameFacts
