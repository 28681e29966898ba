pub mod Asked
pub mod Fed
pub mod Server
pub mod Order
pub mod Laws
