pub mod Toy
pub mod Sound
