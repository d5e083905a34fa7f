pub mod Causes
pub mod Spare
