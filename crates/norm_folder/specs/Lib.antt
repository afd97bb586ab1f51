pub mod Entries
pub mod Reading
pub mod Sending
pub mod Checks
pub mod Copies
pub mod Asking
pub mod Mirrored
pub mod Laws
