pub mod Answers
pub mod Contents
pub mod Granted
pub mod Sound
pub mod steps
