pub mod Candidates
pub mod Justifications
pub mod Places
pub mod Search
pub mod Slots
pub mod Symbols
