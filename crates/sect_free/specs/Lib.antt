pub mod Freely
pub mod Rounds
pub mod States
