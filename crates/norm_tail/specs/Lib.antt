pub mod Steps
pub mod SoFar
pub mod Beginning
pub mod Ending
pub mod Recovering
