pub mod OneEachLemmas
pub mod PartLemmas
pub mod HeldLemmas
