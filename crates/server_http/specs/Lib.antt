pub mod Renewals
pub mod Replies
pub mod Visits
