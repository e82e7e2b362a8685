pub mod Names
pub mod Meaning
pub mod Valid
pub mod Faults
pub mod Verdicts
pub mod steps
