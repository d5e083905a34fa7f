pub mod CellLines
pub mod ErrorLines
pub mod Queues
pub mod SaidLines
pub mod UtcTexts
