pub mod View
pub mod CanEncode
pub mod Whole
