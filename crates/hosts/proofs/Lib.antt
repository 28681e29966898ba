pub mod Places
mod Due
