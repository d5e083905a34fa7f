pub mod Asked
pub mod Failing
pub mod Reused
pub mod Made
pub mod Merging
