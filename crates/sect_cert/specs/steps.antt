-- What private functions answer, step by step. No public contract cites these words.
pub mod Numbers
pub mod Readers
pub mod Certificates
pub mod Runs
pub mod Stepping
pub mod Writes
pub mod Subjects
pub mod Known
pub mod Lists
pub mod Chains
pub mod Reading
pub mod Stages
pub mod Closing
pub mod Again
