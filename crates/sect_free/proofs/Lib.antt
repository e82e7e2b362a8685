mod MoreSteps
mod MoreSections
mod Freely
mod States
mod Rounds
