pub mod Causes
pub mod Paces
