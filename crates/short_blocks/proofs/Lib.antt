pub mod Linking
pub mod Windows
