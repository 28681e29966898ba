pub mod Session
pub mod Taken
