pub mod Copies
pub mod CopyItems
