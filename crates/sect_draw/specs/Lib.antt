pub mod Words
pub mod Waits
pub mod Table
pub mod Places
pub mod Placing
pub mod Chart
pub mod Graphs
pub mod steps
