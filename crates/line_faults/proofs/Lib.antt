pub mod NearestLemmas
pub mod TextLemmas
