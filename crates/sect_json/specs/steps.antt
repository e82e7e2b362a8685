-- What the contracts of private functions speak of.
pub mod Changing
pub mod Explained
pub mod Inspected
pub mod Sectioned
pub mod Stepping
pub mod Turning
pub mod Writes
