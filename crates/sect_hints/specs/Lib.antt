pub mod Hints
pub mod Faults
pub mod Names
pub mod Verdicts
