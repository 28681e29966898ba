pub mod Past
pub mod Making
pub mod Printed
pub mod Play
