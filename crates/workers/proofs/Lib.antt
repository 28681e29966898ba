pub mod InOrder
pub mod Shared
