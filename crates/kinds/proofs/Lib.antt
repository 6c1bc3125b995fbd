pub mod GroupLengths
pub mod Same
