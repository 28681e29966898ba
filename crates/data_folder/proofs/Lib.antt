mod FolderLemmas
mod ItemLemmas
pub mod Crossing
