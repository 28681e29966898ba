pub mod TextLemmas
pub mod Crossing
pub mod ToldLemmas
pub mod DifferLemmas
