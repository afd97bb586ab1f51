pub mod BlockState
pub mod Places
pub mod Offering
pub mod Rows
pub mod RowsSound
pub mod ObjectState
pub mod ObjectSound
