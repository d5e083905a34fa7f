pub mod SinkLemmas
pub mod RunLemmas
pub mod StreamLemmas
