pub mod Lane
pub mod Message
pub mod MessageLaws
pub mod Numbered
pub mod Pieces
pub mod Reading
pub mod Receiving
pub mod Sending
