pub mod QuestionLemmas
pub mod VersionLemmas
pub mod AreaLemmas
pub mod ClassLemmas
pub mod PlaceLemmas
pub mod CheckLemmas
pub mod SearchLemmas
pub mod FoundLemmas
