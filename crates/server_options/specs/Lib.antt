pub mod BeginTexts
pub mod Faults
pub mod Folds
