pub mod Chains
pub mod Pairs
pub mod Resolvents
pub mod Resolving
pub mod Search
pub mod Symbols
