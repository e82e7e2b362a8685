mod Adding
mod Finding
mod Searching
pub mod shared
