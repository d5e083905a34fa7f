pub mod Files
pub mod Given
pub mod Replayed
pub mod Starts
