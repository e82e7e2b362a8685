pub mod Paths
pub mod Layout
pub mod Rests
pub mod Graphs
pub mod Predecessors
