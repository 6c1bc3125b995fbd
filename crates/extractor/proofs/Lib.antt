pub mod KeyLemmas
pub mod Ends
