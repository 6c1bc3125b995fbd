pub mod Model
pub mod Promise
