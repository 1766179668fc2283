pub mod Taking
pub mod Working
pub mod AnyCutting
pub mod WorkedFrames
