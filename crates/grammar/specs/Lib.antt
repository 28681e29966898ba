pub mod Stats
pub mod Turns
pub mod Limit
pub mod Asks
pub mod Reads
pub mod Orders
