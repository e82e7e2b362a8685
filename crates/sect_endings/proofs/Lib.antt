pub mod Going
pub mod Ranked
pub mod Marked
pub mod Running
pub mod Candidates
pub mod Walks
pub mod Judging
pub mod Rounding
