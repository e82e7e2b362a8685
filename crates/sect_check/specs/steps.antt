-- What private functions answer. No public contract cites these words.
pub mod Claimed
pub mod Resolving
pub mod Shapes
pub mod Parts
