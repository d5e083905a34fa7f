pub mod CellOrderLemmas
pub mod SortingLemmas
