pub mod Listed
pub mod BookState
pub mod BookMoves
pub mod Answers
pub mod BookSound
pub mod Laws
