pub mod PickLemmas
pub mod JoinLemmas
pub mod TakeLemmas
pub mod AnswerLemmas
pub mod NumberedLemmas
