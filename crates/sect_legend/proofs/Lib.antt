mod Naming
mod Placing
pub mod shared
