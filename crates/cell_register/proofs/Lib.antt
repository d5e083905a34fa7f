pub mod RangeLemmas
pub mod SeatLemmas
pub mod PlacesLemmas
pub mod AreaLemmas
pub mod IndexLemmas
pub mod EditLemmas
