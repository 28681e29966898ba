pub mod ChangeLemmas
pub mod NotedLemmas
pub mod OrderLemmas
pub mod NumberLemmas
pub mod RowNumberLemmas
pub mod ChangedLemmas
