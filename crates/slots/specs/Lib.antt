pub mod Slot
pub mod Slots
pub mod Sending
pub mod UpSlots
pub mod Status
pub mod Runs
