pub mod Journal
pub mod Centre
