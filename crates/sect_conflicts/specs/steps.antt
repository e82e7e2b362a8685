-- What the contracts of private functions speak of.
pub mod Steady
pub mod Profiles
pub mod Progress
pub mod Taking
