-- What the contracts of private functions speak of.
pub mod Counting
pub mod Fits
pub mod Moves
pub mod Taking
pub mod Tracing
pub mod Wishing
