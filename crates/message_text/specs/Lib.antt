pub mod Alphabet
pub mod Measures
pub mod Plain
pub mod Septets
pub mod Reading
pub mod Texts
pub mod Writing
