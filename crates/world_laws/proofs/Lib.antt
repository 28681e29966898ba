pub mod OwnLetters
pub mod BallotLemmas
pub mod Follows
pub mod Restarts
pub mod Projected
pub mod Untrimmed
pub mod Proved
