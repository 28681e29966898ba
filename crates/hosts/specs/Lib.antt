pub mod Host
pub mod Stops
pub mod Shown
pub mod Orders
pub mod Due
