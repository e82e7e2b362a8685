-- What follows from the public words of this crate, for the proofs of the crates above.
pub mod Grips
pub mod Graphed
pub mod Keys
pub mod Modes
pub mod NeedingAccesses
pub mod Numbered
pub mod PlanModes
pub mod Plans
pub mod Pointing
pub mod Securing
pub mod Sets
pub mod Starting
pub mod Crossing
pub mod TypedPrograms
