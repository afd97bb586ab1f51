pub mod View
pub mod CanWrite
