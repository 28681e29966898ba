pub mod Levels
pub mod MergeLemmas
pub mod DigestLemmas
pub mod ToldLemmas
pub mod ToldLaws
