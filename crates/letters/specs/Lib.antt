pub mod Letter
pub mod Size
pub mod Laws
