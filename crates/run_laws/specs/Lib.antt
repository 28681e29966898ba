pub mod Texts
pub mod Met
pub mod Run
pub mod Chosen
pub mod Replied
pub mod Laws
