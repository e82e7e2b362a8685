pub mod Comments
pub mod Conditions
