pub mod Entered
pub mod LinkComments
pub mod OfficeJournals
pub mod Losses
