pub mod Links
pub mod Sound
pub mod State
