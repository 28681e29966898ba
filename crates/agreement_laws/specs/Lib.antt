pub mod Letters
pub mod Machine
pub mod ChosenList
pub mod Laws
pub mod Verifiers
