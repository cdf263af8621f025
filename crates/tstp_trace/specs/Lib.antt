pub mod Names
pub mod Faults
pub mod Sources
pub mod Problems
pub mod Traces
pub mod Laws
