pub mod Rest
pub mod ServerGrammar
pub mod TextGrammar
