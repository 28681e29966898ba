pub mod Asked
pub mod Count
pub mod Commands
pub mod Histogram
pub mod Kind
pub mod Outcome
pub mod Refusal
