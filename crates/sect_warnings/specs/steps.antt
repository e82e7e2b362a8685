-- What the contracts of private functions speak of.
pub mod Reasons
pub mod Hinted
pub mod Trials
pub mod Usage
pub mod Losing
