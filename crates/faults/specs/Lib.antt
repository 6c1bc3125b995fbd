pub mod Numbers
pub mod Branches
pub mod Texts
pub mod Outcomes
