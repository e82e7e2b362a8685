-- What the contracts of private functions speak of.
pub mod CellTexts
pub mod Drawings
pub mod Resting
pub mod Turning
