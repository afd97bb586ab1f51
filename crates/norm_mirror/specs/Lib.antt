pub mod Manifest
pub mod Reading
pub mod Checking
pub mod Folder
pub mod Laws
