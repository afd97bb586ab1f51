pub mod Ranges
pub mod Puts
pub mod Below
pub mod Bits
pub mod Counting
pub mod Filled
pub mod Moved
pub mod Rises
