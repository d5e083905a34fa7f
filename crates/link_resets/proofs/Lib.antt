pub mod AnswerLemmas
pub mod JudgeLemmas
pub mod KeyLemmas
