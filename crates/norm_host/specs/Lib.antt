pub mod Streams
pub mod FileNames
pub mod Hosting
pub mod Clocks
pub mod Instances
pub mod Laws
