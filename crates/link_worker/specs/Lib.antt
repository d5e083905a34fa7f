pub mod Ends
pub mod Loads
pub mod Orders
pub mod Reports
pub mod Passages
