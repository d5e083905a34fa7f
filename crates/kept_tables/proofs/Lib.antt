pub mod SumLemmas
pub mod SpotLemmas
pub mod BroadcastLemmas
pub mod NumbersLemmas
pub mod ViewLemmas
pub mod SettleLemmas
