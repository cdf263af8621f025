pub mod Choices
pub mod Ends
pub mod Laws
pub mod Rows
pub mod ThinTrees
pub mod Walks
