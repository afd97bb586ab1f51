pub mod MessageView
pub mod CanWriteMessage
