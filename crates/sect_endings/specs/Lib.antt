pub mod Graphs
pub mod Runs
pub mod Laws
pub mod steps
