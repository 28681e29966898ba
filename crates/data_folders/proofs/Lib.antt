mod CopyLemmas
pub mod Crossing
