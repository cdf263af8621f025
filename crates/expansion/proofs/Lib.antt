pub mod EntryLaws
pub mod Everywhere
pub mod InstanceLaws
pub mod RowEnds
pub mod ThinLaws
pub mod TreeLaws
pub mod WalkSteps
