pub mod BracketLaws
pub mod ChunkLaws
pub mod LongestToken
pub mod Loops
pub mod NumberLaws
pub mod Places
pub mod SkippedMatter
pub mod UnclosedQuotes
