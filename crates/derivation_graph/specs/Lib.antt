pub mod Graphs
pub mod Orders
pub mod Roots
pub mod Agendas
pub mod Reach
pub mod Ranks
pub mod Laws
pub mod Names
