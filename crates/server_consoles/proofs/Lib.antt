pub mod SlotLemmas
pub mod WatchLemmas
