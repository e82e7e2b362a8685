pub mod Advising
pub mod Wording
