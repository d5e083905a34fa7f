pub mod Alive
pub mod Frames
pub mod Refusing
pub mod Resets
