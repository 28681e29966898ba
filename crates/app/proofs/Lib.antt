mod Writing
mod PastLemmas
mod MakingLemmas
mod PrintedLemmas
mod PlayLemmas
