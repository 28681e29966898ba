pub mod Waiting
pub mod Cut
pub mod Stamp
