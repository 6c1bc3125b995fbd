pub mod Outcomes
pub mod Numbered
pub mod Calls
pub mod State
pub mod Keeping
pub mod Kept
