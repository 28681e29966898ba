pub mod Count
pub mod Standing
pub mod Start
pub mod Log
pub mod Votes
pub mod Laws
pub mod Record
pub mod RecordProofs
