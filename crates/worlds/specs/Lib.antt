pub mod Clients
pub mod World
pub mod First
pub mod Asked
