pub mod CellSetLemmas
pub mod SilenceLemmas
