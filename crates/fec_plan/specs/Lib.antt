pub mod Partition
pub mod Covering
pub mod Payload
pub mod Points
pub mod OrderLaws
