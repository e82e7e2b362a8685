mod Paths
mod Bounds
mod Rests
mod Emitting
mod Running
mod Graphs
mod Adding
mod Preceding
pub mod shared
