pub mod Codes
pub mod Pieces
pub mod BufferState
