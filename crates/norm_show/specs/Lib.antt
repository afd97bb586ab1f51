pub mod Words
pub mod Line
pub mod Sentences
pub mod Showing
pub mod Progress
pub mod ShowCause
