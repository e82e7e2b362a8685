-- What private functions answer, step by step. No public contract cites these words.
pub mod Labels
pub mod Solving
pub mod Marks
pub mod Readers
pub mod Places
pub mod Extents
pub mod Standing
