pub mod Connection
pub mod Slots
pub mod Owed
pub mod Logs
pub mod History
pub mod Connections
pub mod Told
