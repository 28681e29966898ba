pub mod Values
pub mod Items
pub mod Texts
pub mod Rows
pub mod Updates
pub mod Commands
pub mod Sorting
pub mod SessionLemmas
