pub mod Failures
pub mod Joining
pub mod Passing
pub mod Untold
pub mod Ways
