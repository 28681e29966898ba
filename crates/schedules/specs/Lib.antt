pub mod Parts
pub mod Escape
pub mod Line
pub mod Schedule
pub mod Reading
pub mod Laws
