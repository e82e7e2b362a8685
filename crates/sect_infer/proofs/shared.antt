-- What follows from the public words of this crate, for the proofs of the crates above.
pub mod Apart
pub mod Bounding
pub mod Extending
pub mod Sets
pub mod Undone
pub mod Crossing
