pub mod Shown
pub mod Running
pub mod Checks
