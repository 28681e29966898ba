pub mod Idle
pub mod Input
pub mod Socket
pub mod Sockets
pub mod Traffic
