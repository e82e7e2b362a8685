-- What private functions answer, step by step. No public contract cites these words.
pub mod Keys
pub mod Links
pub mod Arena
pub mod Letting
