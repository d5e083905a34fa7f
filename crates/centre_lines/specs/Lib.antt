pub mod Following
pub mod Found
pub mod Walking
