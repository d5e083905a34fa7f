pub mod Questions
pub mod Surveys
