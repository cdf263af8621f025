pub mod Arguments
pub mod Composing
pub mod Counting
pub mod FullImages
pub mod Laws
pub mod Relaxing
pub mod Searching
