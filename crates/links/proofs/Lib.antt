mod HeldLemmas
mod LaneLemmas
mod MessageLemmas
mod MessageLawLemmas
mod PieceLemmas
mod ReadingLemmas
mod SendingLemmas
