pub mod SameBlock
pub mod BlockState
pub mod BlockSound
pub mod BlockMoves
pub mod StreamState
pub mod StreamSound
pub mod StreamMoves
