pub mod Letters
pub mod Rules
pub mod After
pub mod Holding
