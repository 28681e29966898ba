pub mod Answer
pub mod Data
pub mod History
pub mod Response
pub mod Wanted
