mod FrameLemmas
mod TakingLemmas
mod OpeningLemmas
mod LawLemmas
mod TagLemmas
