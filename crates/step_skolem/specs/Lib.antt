pub mod Carrying
pub mod Chaining
pub mod Images
pub mod Laws
pub mod Levels
pub mod Rows
pub mod Searching
pub mod Substitutions
