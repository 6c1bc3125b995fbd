pub mod RunLemmas
pub mod ReadLemmas
