pub mod Place
pub mod Form
pub mod Site
pub mod Fault
pub mod Identity
pub mod KeyText
pub mod Laws
