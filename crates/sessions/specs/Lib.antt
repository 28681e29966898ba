pub mod Fresh
pub mod Limits
