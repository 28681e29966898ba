mod Majorities
mod NewestLemmas
