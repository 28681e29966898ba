pub mod OneOrder
pub mod Samples
pub mod Stale
pub mod Fresh
pub mod Longer
