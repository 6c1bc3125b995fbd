pub mod Choice
pub mod Steps
pub mod Padding
pub mod Whole
