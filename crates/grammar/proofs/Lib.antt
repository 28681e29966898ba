mod WordLemmas
mod NumberTexts
mod TextLemmas
mod LimitLemmas
mod FullLemmas
mod TurnLemmas
mod LimitedLemmas
pub mod ReadLemmas
pub mod AskLemmas
pub mod ProfileLemmas
