pub mod PuttingLemmas
pub mod TakingLemmas
pub mod FileLemmas
pub mod EnteringLemmas
pub mod LosingLemmas
