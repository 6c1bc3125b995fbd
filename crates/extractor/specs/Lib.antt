pub mod Accepted
pub mod Picks
