pub mod Frame
pub mod Keys
pub mod Laws
pub mod Opening
pub mod Taking
