pub mod TalkLemmas
pub mod RequestLemmas
pub mod TakenLemmas
pub mod LawLemmas
