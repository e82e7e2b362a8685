-- What follows from the public words of this crate, for the proofs of the crates above.
pub mod Stronger
pub mod PathNames
pub mod Selecting
pub mod Taking
