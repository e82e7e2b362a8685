-- What the contracts of private functions speak of.
pub mod Needs
pub mod Working
pub mod Putting
pub mod Listing
pub mod Fronts
pub mod Queued
pub mod Found
pub mod Sharing
