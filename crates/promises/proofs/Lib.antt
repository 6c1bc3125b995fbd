pub mod Reading
pub mod Fills
pub mod Runs
pub mod Rounds
pub mod Cuts
