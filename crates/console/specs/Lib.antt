pub mod Generations
pub mod Sessions
pub mod Text
pub mod Consoles
pub mod Replays
pub mod Running
pub mod Laws
