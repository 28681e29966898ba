pub mod Suspicion
pub mod Run
