pub mod Round
pub mod Held
pub mod HeldSound
pub mod Placed
pub mod NextIn
