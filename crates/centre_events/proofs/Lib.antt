pub mod PastLemmas
pub mod EffectLemmas
pub mod ReplyLemmas
pub mod LookupLemmas
pub mod PlaceLemmas
pub mod SteppedLemmas
pub mod FindingLemmas
pub mod FoldingLemmas
