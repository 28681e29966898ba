pub mod Rows
pub mod RowLaws
pub mod Text
pub mod TextLaws
pub mod StateOf
