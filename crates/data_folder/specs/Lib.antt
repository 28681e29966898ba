pub mod Text
pub mod Found
pub mod Items
pub mod Host
