-- What the contracts of private functions speak of.
pub mod Fronts
pub mod Replying
pub mod Underway
pub mod Keeping
