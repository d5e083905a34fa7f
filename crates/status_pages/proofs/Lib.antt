pub mod EscapeLemmas
pub mod TurnLemmas
