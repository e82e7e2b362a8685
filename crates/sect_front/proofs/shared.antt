-- What follows from the public words of this crate, for the proofs of the crates above.
pub mod Alone
pub mod Bodies
pub mod Crossing
pub mod Lexings
pub mod Listed
pub mod Numerals
pub mod Only
pub mod Rests
