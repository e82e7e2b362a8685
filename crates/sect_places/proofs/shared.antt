-- What follows from the public words of this crate, for the proofs of the crates above.
pub mod Ordered
pub mod Names
pub mod Fitting
pub mod Naming
pub mod Bounds
