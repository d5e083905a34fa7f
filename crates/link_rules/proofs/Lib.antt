pub mod BlockLemmas
pub mod BucketLemmas
pub mod PartLemmas
pub mod NumberLemmas
pub mod PeerLemmas
pub mod LineLemmas
