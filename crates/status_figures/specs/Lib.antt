pub mod Health
pub mod Labels
pub mod Metrics
pub mod Tables
pub mod Words
