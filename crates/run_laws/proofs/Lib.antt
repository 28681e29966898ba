pub mod Elements
pub mod Small
pub mod Trees
pub mod Tokens
pub mod Runs
pub mod Replies
mod Rows
