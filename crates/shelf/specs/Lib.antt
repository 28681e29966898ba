pub mod Rows
pub mod WaitingView
pub mod InMemory
pub mod Found
