pub mod SymbolLists
pub mod Distance
pub mod Values
pub mod Roots
pub mod GeneratorList
pub mod Frames
pub mod FramesProved
