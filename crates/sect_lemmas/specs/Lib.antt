pub mod Blocks
pub mod Distinct
pub mod Lists
pub mod Numbers
