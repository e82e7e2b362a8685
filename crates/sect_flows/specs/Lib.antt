pub mod Flows
pub mod steps
