pub mod PartLemmas
pub mod RunLemmas
pub mod HexTextLemmas
pub mod FrameLemmas
pub mod CommandLineLemmas
pub mod ReportLemmas
pub mod EventLemmas
