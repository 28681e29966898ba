pub mod Report
pub mod Told
