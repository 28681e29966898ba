pub mod Sorted
pub mod MapLemmas
mod PieceLemmas
pub mod ListLemmas
