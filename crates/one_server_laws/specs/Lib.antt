pub mod Saved
pub mod Machines
pub mod HeldLaws
pub mod AskedLaws
pub mod Served
pub mod Run
pub mod InTime
pub mod Laws
