-- What the contracts of private functions speak of.
pub mod Inferred
pub mod Wishes
pub mod Spelled
pub mod Known
pub mod Certifying
