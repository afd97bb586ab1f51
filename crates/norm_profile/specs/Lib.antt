pub mod Profiles
pub mod Loading
