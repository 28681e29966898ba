mod Crossing
mod HandLemmas
mod DurableLemmas
