pub mod Patterns
pub mod Pieces
pub mod Print
pub mod Walks
