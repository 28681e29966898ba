pub mod Ballots
pub mod Machines
pub mod Laws
