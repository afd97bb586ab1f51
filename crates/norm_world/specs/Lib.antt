pub mod WorldKept
pub mod WorldMoves
