pub mod RequestProofs
pub mod Talk
pub mod Step
pub mod Client
pub mod Taken
pub mod Laws
