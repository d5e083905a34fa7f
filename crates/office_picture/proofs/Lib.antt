pub mod UseLemmas
pub mod SurveyLemmas
