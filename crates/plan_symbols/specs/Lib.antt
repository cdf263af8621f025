pub mod Known
pub mod Laws
pub mod Over
pub mod Repair
