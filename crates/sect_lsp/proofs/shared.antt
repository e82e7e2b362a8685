-- What crates above may cite.
pub mod Pieces
