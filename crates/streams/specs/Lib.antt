pub mod Session
pub mod Writes
