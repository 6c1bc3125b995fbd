pub mod Tables
pub mod Rooms
pub mod Answered
pub mod Tested
pub mod Promised
