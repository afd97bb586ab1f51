pub mod Gathered
pub mod Relayed
pub mod Misfits
pub mod Writing
pub mod Hearing
pub mod Chaining
