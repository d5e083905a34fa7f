pub mod AliveFrames
pub mod Fault
pub mod Framers
pub mod Runs
pub mod Sink
pub mod Source
pub mod Streams
