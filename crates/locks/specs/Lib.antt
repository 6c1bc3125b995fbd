pub mod Circuit
pub mod Limits
pub mod Lengths
pub mod Reading
pub mod Encoding
pub mod Model
pub mod Locks
pub mod Refusing
