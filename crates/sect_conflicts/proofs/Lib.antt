mod PathPairs
mod ModeTables
mod Steadying
mod Firsts
mod Clashing
mod Progressing
mod Profiling
mod OtherSections
mod TakenKeys
pub mod shared
