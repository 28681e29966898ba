pub mod GroupLemmas
pub mod PlaceLemmas
