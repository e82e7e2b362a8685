mod Places
mod Marking
mod Keeping
mod Growing
mod Carrying
mod Working
mod Meaning
mod Trails
mod Firsts
mod Adding
mod Spreading
mod Listing
mod Staying
mod Starting
mod Chaining
mod Linking
mod Following
pub mod shared
