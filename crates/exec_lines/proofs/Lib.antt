pub mod BegunLemmas
pub mod CutLemmas
pub mod LineLemmas
pub mod StandingLemmas
