pub mod Owed
pub mod Pause
pub mod Service
pub mod Steps
pub mod Told
pub mod Ticks
pub mod Process
pub mod Record
