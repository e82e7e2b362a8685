pub mod Conflicts
pub mod Comparing
pub mod Laws
pub mod Naming
pub mod Selecting
pub mod Taken
pub mod steps
