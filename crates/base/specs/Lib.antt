pub mod Places
pub mod Pieces
pub mod Limits
pub mod Shared
