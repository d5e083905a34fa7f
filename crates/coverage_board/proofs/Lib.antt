pub mod NumbersLemmas
pub mod AreaLemmas
pub mod RowLemmas
