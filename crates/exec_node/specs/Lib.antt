pub mod Record
pub mod Executor
pub mod Lent
pub mod Laws
