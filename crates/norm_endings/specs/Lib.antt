pub mod StatusOf
pub mod MirrorReasons
pub mod Usage
pub mod Reasons
pub mod Outside
pub mod Endings
pub mod InputCause
