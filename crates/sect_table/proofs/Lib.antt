mod Claiming
mod Entries
mod Growing
mod Keeping
mod Moving
mod Numbers
mod Passing
mod Releasing
mod Roles
mod Runs
mod Shown
mod Sounding
mod Walking
mod Whole
pub mod shared
