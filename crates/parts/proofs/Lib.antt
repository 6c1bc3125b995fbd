pub mod Written
pub mod Chained
pub mod Made
