mod Choosing
mod Listing
mod Within
mod Wording
