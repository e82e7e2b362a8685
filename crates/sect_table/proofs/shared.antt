-- What follows from the public words of this crate, for the proofs of the crates above.
pub mod Claiming
pub mod Entries
pub mod Passing
pub mod Shown
pub mod Sounding
