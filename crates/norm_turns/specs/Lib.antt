pub mod Causes
pub mod Moments
pub mod Noticing
pub mod Printing
pub mod Telling
