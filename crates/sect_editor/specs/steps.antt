-- What the contracts of private functions speak of.
pub mod Naming
pub mod Marking
pub mod Pointing
