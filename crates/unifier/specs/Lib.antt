pub mod Closing
pub mod Comparing
pub mod Outcomes
pub mod Settling
pub mod Solutions
pub mod Substitution
