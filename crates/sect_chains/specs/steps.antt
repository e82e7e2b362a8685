-- What the contracts of private functions speak of.
pub mod Trails
pub mod Marking
pub mod Keeping
pub mod Working
pub mod Starting
pub mod Following
pub mod Ordering
