pub mod Changes
pub mod Row
pub mod RowItems
pub mod Rising
pub mod Changed
