pub mod CellIdLemmas
pub mod CellListLemmas
pub mod CountListLemmas
pub mod ElementLemmas
pub mod FailureListLemmas
pub mod ListLemmas
pub mod NumberLemmas
pub mod WrittenLemmas
