pub mod Marks
pub mod NodeLemmas
pub mod BallotLemmas
pub mod BodyLemmas
pub mod LetterLemmas
pub mod Lengths
pub mod BoundLemmas
