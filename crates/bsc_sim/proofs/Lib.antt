pub mod ConversationLemmas
pub mod FitLemmas
pub mod OwnCellLemmas
pub mod TallyLemmas
