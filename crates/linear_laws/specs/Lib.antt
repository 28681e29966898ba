pub mod Laws
pub mod InTime
