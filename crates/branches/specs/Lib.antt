pub mod Rows
pub mod Wires
pub mod Walks
pub mod Holding
pub mod Filled
pub mod Views
