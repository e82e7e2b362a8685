mod GlobalLaws
mod HintLaws
mod GuardLaws
mod FaultLaws
pub mod shared
