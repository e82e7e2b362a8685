mod Listing
mod Marks
mod Passing
mod Places
