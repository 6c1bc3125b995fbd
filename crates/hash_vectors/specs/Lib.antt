pub mod Published
pub mod Tables
