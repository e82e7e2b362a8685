pub mod Comparing
pub mod Exploring
pub mod Judging
pub mod Trimming
pub mod steps
