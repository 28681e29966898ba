pub mod Serving
pub mod Orders
pub mod Replicas
pub mod InTime
