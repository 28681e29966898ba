mod VoteLemmas
pub mod LogLemmas
mod RecordLemmas
pub mod CouldStand
pub mod VerdictLemmas
pub mod GrowthLemmas
pub mod TokenLemmas
