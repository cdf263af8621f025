pub mod Lets
pub mod Levels
pub mod Pieces
pub mod Print
