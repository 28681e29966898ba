pub mod Answering
pub mod Durable
