pub mod Drawn
pub mod Running
pub mod Tapes
