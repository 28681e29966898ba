pub mod SessionLemmas
pub mod TakenLemmas
