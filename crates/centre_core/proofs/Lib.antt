pub mod FitsLemmas
pub mod FoldedLemmas
pub mod CentreLemmas
pub mod JournalLemmas
pub mod RebuildLemmas
pub mod MeterLemmas
pub mod ListingLemmas
