pub mod Commands
pub mod Parser
pub mod Parts
pub mod Reading
pub mod Usage
pub mod Views
