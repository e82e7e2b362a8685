pub mod Chains
pub mod Numbered
pub mod steps
